-- What the contracts of program_print cite.
pub mod End
