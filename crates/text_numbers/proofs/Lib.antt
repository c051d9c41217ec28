-- Laws of text_numbers.
pub mod Number
pub mod Onto
pub mod Onward
