-- What the contracts of build_passes cite.
pub mod Filled
