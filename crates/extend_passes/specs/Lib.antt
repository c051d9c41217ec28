-- What the contracts of extend_passes cite.
pub mod Finished
pub mod Whole
