-- What the contracts of extend_runs cite.
pub mod Joining
pub mod Copied
