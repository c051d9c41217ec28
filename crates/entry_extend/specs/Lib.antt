-- What the contracts of entry_extend cite.
pub mod Answer
