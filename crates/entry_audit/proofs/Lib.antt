-- Laws of entry_audit.
pub mod Turn
pub mod Cases
pub mod Chunks
pub mod Going
pub mod Covered
