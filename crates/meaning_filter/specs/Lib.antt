-- Candidates and the list of matches, as documents 01 and 02 have them.
pub mod Envelope
pub mod Range
pub mod Candidates
pub mod Matches
pub mod Ordered
pub mod Closest
