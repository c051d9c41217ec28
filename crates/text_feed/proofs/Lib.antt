-- Laws of text_feed.
pub mod FeedLaws
pub mod Keep
pub mod Whole
