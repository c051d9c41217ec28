-- What the contracts of distance_within cite.
pub mod Answer
pub mod Within
