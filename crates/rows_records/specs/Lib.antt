-- What the contracts of rows_records cite.
pub mod Records
