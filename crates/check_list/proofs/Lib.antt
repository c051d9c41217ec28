-- Laws of check_list.
pub mod Candidates
pub mod Found
pub mod Listed
pub mod Members
pub mod Turn
