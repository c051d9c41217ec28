-- Laws of extend_count.
pub mod Count
pub mod Extension
pub mod Listed
pub mod Rank
