-- What the contracts of try_c_index cite.
pub mod Told
