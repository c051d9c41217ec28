-- Laws of distance_match.
pub mod AlikeLaws
pub mod Matched
pub mod Shift
