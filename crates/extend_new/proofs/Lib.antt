-- Laws of extend_new.
pub mod Join
pub mod New
