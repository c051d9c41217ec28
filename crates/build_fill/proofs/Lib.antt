-- Laws of build_fill.
mod Fits
pub mod Pass
pub mod Turn
