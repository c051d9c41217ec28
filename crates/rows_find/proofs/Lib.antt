-- Laws of rows_find.
pub mod Search
