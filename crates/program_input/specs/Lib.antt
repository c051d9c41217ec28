-- What the contracts of program_input cite.
pub mod Input
pub mod Tables
