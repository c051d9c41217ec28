-- What the contracts of extend_count cite.
pub mod Listed
pub mod Rank
pub mod Count
