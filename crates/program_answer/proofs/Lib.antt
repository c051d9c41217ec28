-- Laws of program_answer.
pub mod Print
pub mod Sizes
pub mod Whole
