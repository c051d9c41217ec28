-- Laws of distance_normal.
pub mod Normal
pub mod Stretch
