-- Laws for a walk by hand: a proof that goes through a function's steps by the rules of the toolchain's logic. None names a type or a function.
pub mod Walk
pub mod Told
pub mod Again
pub mod Lends
pub mod Elem
pub mod Passing
pub mod Turns
pub mod Arrays
pub mod Holding
pub mod Prelude
pub mod Cases
