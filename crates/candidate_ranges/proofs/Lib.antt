-- What the definitions of specs/ imply.
pub mod Sizes
pub mod Same
pub mod Ends
pub mod Fits
