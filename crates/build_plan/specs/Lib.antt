-- What the contracts of build_plan cite.
pub mod Plan
