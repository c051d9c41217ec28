-- Laws of rows_pack.
pub mod Packed
pub mod Records
