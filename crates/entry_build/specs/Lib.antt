-- What the contracts of entry_build cite.
pub mod Answer
