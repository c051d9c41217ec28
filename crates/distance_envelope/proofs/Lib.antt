-- Laws of distance_envelope.
pub mod Best
pub mod EnvelopeLaws
pub mod Pass
