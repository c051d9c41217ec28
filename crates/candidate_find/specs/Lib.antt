-- What the contracts of candidate_find cite.
pub mod Sought
