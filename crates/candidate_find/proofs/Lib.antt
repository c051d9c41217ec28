-- Laws of candidate_find.
pub mod Looks
pub mod Only
