-- What the contracts of extend_parts cite.
pub mod Lay
pub mod Copy
