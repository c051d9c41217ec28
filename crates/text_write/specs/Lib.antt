-- What the contracts of text_write cite.
pub mod Write
