-- What the stages of a build ask of those before them.
pub mod Stages
pub mod Filled
pub mod Rowed
