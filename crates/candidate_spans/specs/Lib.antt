-- What the contracts of candidate_spans cite.
pub mod Held
pub mod Met
pub mod Raised
