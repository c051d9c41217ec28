-- What reading an index text implies: its runs in the run buffer (`Columns`).
pub mod Columns
pub mod Planned
pub mod Kept
pub mod Runs
