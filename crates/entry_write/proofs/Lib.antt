-- Laws of entry_write.
pub mod Kept
pub mod Spell
