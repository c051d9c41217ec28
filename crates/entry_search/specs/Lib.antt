-- What the contracts of entry_search cite.
pub mod Finished
