-- The entries of documents 01 and 02: for each its refusals in order, its answer, and every lent buffer afterwards; the demands.
pub mod Reasons
pub mod Refusal
pub mod Buffers
pub mod Answers
pub mod Build
pub mod Extend
pub mod Audit
pub mod Write
pub mod Load
pub mod Search
pub mod AuditText
pub mod Program
pub mod Demand1
pub mod Demand2
pub mod Demand3
pub mod Both
