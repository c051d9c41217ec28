-- What the tally of an index text implies: it is a view of what has been said (`Seen`), and what an event does to it (`Events`).
pub mod Seen
pub mod Events
pub mod Bad
pub mod Prefix
