-- What the audit of an index text implies: the windows in its runs (`Taken`), and the plan and the answer (`Planned`).
pub mod Taken
pub mod Planned
