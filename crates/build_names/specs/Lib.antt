-- What the contracts of build_names cite.
pub mod Ranges
pub mod Places
pub mod Packed
