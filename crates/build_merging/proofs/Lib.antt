-- Laws of build_merging.
pub mod Filed
pub mod Standing
