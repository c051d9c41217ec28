-- What the contracts of text_put cite.
pub mod Put
