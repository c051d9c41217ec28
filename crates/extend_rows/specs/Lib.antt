-- What the contracts of extend_rows cite.
pub mod Shell
pub mod Steps
pub mod Passes
