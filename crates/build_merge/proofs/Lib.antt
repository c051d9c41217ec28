-- Laws of build_merge.
mod Turn
pub mod Merging
pub mod Names
