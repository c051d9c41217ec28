-- What the contracts of distance_envelope cite.
pub mod Envelope
pub mod Best
pub mod Pass
