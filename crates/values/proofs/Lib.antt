-- Laws of values.
pub mod SumsLaws
pub mod Window
