-- What the definitions of specs/ imply.
pub mod Scan
pub mod Next
pub mod Outcome
