-- The plan is the refusal that the meanings say.
pub mod Planned
