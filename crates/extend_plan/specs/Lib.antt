-- What the contracts of extend_plan cite.
pub mod Plan
