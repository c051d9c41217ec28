-- What the contracts of entry_audit cite.
pub mod Auditing
pub mod Plan
