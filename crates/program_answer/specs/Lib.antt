-- What the contracts of program_answer cite.
pub mod Print
pub mod Finish
