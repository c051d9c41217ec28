-- What the contracts of candidate_plan cite.
pub mod Tables
pub mod Allowed
