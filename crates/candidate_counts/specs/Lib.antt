-- What the contracts of candidate_counts cite.
pub mod Raise
pub mod Handed
pub mod Take
