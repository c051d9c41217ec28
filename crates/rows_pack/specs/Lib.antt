-- What the contracts of rows_pack cite.
pub mod Packed
pub mod PackedAs
