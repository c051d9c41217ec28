-- Laws of distance_bound.
pub mod Excess
