-- What the definitions of specs/ imply.
pub mod Ends
pub mod Above
pub mod Stretch
pub mod Spanned
pub mod Meaning
pub mod Parts
pub mod Stored
