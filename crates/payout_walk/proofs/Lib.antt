-- What a pass over the rows of an index text implies.
pub mod Run
pub mod Seen
pub mod Found
