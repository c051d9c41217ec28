-- What reading a text row by row implies: a turn of the loop over its bytes (`Turn`), and a reader at the end of a line (`Onward`).
pub mod Turn
mod Onward
pub mod Filled
