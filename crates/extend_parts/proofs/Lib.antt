-- Laws of extend_parts.
pub mod Columns
pub mod Copy
pub mod Lay
pub mod OldRuns
pub mod OldPassed
pub mod Records
