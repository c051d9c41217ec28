-- What the contracts of text_rows cite.
pub mod Line
