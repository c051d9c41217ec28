-- Laws of sums_slide.
pub mod Change
pub mod EndsLaws
pub mod Levels
pub mod Marks
pub mod Picked
pub mod Table
