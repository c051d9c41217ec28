-- What the contracts of text_count cite.
pub mod Count
