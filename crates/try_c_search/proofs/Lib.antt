-- What a told search keeps.
pub mod Kept
