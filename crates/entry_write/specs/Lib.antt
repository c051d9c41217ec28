-- What the contracts of entry_write cite.
pub mod Spell
pub mod Answer
