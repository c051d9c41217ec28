-- What the contracts of try_c_match cite.
pub mod Told
