-- Laws of entry_search.
pub mod Looks
pub mod Only
pub mod SoughtLaws
