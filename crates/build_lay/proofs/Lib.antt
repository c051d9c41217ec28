-- What the parts of `lay_rows` ask and give.
pub mod Packs
pub mod Laid
