-- Laws of sums_count.
pub mod Numbers
pub mod Rows
pub mod Tally
