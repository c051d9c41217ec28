-- Laws of distance_within.
pub mod Answer
pub mod Room
pub mod Within
