-- Laws of text_list.
pub mod Found
