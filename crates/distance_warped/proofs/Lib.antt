-- Laws of distance_warped.
pub mod Rest
pub mod Rows
