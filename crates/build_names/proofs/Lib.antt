-- Laws of build_names.
mod Turn
pub mod Named
pub mod Naming
pub mod Packed
pub mod Places
pub mod Ranges
