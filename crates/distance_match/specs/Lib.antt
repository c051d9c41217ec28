-- What the contracts of distance_match cite.
pub mod Matched
pub mod Alike
