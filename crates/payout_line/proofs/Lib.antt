-- What reading a series line implies.
pub mod Whole
