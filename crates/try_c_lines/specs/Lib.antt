-- What the contracts of try_c_lines cite.
pub mod Told
pub mod Piece
