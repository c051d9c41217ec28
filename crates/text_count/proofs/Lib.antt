-- Laws of text_count.
pub mod Count
