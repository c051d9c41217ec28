-- Laws of extend_weave.
pub mod Weave
pub mod Woven
