-- What the contracts of text_feed cite.
pub mod Keep
pub mod Feed
pub mod Whole
