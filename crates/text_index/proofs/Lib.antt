-- Laws of text_index.
pub mod Follow
pub mod Order
pub mod Step
pub mod View
