-- Laws of candidate_spans.
pub mod Query
pub mod Held
pub mod MetLaws
pub mod Raised
