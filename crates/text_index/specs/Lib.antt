-- What the contracts of text_index cite.
pub mod Step
pub mod View
