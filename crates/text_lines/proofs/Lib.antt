-- Laws of text_lines.
pub mod Follow
pub mod Step
