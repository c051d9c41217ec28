-- What the contracts of rows_find cite.
pub mod Search
