-- What the contracts of build_fill cite.
pub mod Turn
pub mod Pass
