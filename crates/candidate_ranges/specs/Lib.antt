-- What the contracts of candidate_ranges cite.
pub mod Frame
