-- What the contracts of entry_read cite.
pub mod Plan
pub mod Runs
