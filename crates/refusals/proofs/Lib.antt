-- What the tests of the code say, and the lines of a table by them.
pub mod Tests
pub mod Flat
pub mod RefusalLaws
