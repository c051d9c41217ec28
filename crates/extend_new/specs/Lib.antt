-- What the contracts of extend_new cite.
pub mod New
pub mod Turn
pub mod Join
