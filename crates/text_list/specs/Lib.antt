-- What the contracts of text_list cite.
pub mod Found
