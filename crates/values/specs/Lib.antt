-- What the contracts of values cite.
pub mod Place
pub mod Sums
