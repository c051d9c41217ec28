-- What try_print promises.
pub mod Words
