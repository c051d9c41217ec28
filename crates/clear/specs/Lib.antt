-- What the contracts of clearing cite.
pub mod Clear
