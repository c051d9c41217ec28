-- Whole numbers, as document 01 uses them.
pub mod Sum
pub mod Root
pub mod Quotient
pub mod Order
pub mod Place
