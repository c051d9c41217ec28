-- What the contracts of candidate_met cite.
pub mod Met
pub mod Parts
pub mod Stored
