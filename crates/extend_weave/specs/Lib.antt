-- What the contracts of extend_weave cite.
pub mod Turn
pub mod Weave
