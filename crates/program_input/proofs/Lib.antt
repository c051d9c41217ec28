-- Laws of program_input.
pub mod InputLaws
pub mod Says
pub mod Text
