-- What the contracts of find cite.
pub mod Reading
