-- What the contracts of build_parts cite.
pub mod Part
pub mod Filling
