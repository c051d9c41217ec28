-- What the contracts of try_c_search cite.
pub mod Told
