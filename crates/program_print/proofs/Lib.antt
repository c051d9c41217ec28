-- Laws of program_print.
pub mod End
