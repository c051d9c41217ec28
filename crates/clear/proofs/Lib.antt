-- Laws of clear.
pub mod Cleared
