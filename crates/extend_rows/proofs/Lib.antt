-- Laws of extend_rows.
pub mod Shell
pub mod Laid
