-- What the contracts of distance_warped cite.
pub mod Rows
