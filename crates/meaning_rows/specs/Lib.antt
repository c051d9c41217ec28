-- Rows, runs and the index, as documents 01 and 02 have them.
pub mod Range
pub mod Runs
pub mod Index
pub mod Judge
pub mod Audit
pub mod Build
pub mod Extend
