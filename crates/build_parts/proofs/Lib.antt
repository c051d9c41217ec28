-- Laws of build_parts.
pub mod Lent
pub mod FillingLaws
