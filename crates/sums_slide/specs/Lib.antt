-- What the contracts of sums_slide cite.
pub mod Levels
pub mod Ends
pub mod Change
pub mod Picked
pub mod Marks
pub mod Table
