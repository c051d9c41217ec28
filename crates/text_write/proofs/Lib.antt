-- Laws of text_write.
pub mod Write
