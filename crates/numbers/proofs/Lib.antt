-- Laws of numbers.
pub mod Small
pub mod Back
pub mod Blocks
pub mod Order
pub mod Raised
pub mod Row
pub mod Within
