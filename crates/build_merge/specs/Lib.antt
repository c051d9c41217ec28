-- What the contracts of build_merge cite.
pub mod Names
pub mod Group
pub mod Merging
