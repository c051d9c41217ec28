-- What the contracts of check_list cite.
pub mod Members
pub mod Listed
pub mod Found
