-- What the proofs of the functions for C share.
pub mod Laws
