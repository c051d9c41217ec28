-- What the contracts of text_numbers cite.
pub mod Number
