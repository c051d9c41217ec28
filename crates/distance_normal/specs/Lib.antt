-- What the contracts of distance_normal cite.
pub mod Normal
pub mod Stretch
