-- Series, stretches, distances and matches, as document 01 has them.
pub mod Limits
pub mod Constants
pub mod Curve
pub mod Straight
pub mod Warp
pub mod Table
pub mod Normal
pub mod Match
