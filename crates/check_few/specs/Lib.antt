-- What the contracts of check_few cite.
pub mod Place
pub mod Kept
