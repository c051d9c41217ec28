-- What the contracts of sums_count cite.
pub mod Tally
pub mod Numbers
