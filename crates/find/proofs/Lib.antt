-- Laws of find.
pub mod Reading
