-- Laws of check_few.
pub mod Place
pub mod Kept
