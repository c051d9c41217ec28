-- Laws of extend_runs.
pub mod Rowed
pub mod Joined
pub mod Counts
pub mod Joining
