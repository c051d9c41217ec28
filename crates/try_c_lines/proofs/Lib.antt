-- What the proofs of the lines for C share.
mod Laws
pub mod PieceLaws
