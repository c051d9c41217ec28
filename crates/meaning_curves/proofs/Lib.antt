-- What the definitions imply, by subject.
pub mod Limits
pub mod Values
pub mod Spread
pub mod Normal
pub mod Sizes
pub mod Table
pub mod Grid
pub mod Straight
pub mod Same
pub mod Match
pub mod Open
pub mod Cases
