-- Laws of text_put.
pub mod Digits
pub mod Put
