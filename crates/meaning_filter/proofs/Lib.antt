-- What the definitions imply, by subject.
pub mod Envelope
pub mod Bound
pub mod Apart
pub mod Range
pub mod Cut
pub mod Scale
pub mod Shift
pub mod Kept
pub mod Candidates
pub mod Matches
pub mod Ordered
pub mod Closest
pub mod Only
pub mod Handed
pub mod Open
pub mod Lost
pub mod Cases
