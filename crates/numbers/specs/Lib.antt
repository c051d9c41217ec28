-- What the contracts of numbers cite.
pub mod Raised
pub mod Within
pub mod Small
pub mod Narrow
