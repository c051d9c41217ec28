-- What the passes of an extension ask of those before them.
pub mod Stages
pub mod Finished
pub mod Whole
