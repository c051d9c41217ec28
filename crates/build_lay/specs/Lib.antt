-- What the contracts of build_lay cite.
pub mod Laid
