-- What the contracts of rows_judge cite.
pub mod Judged
pub mod Judging
