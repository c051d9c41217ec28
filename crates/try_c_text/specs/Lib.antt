-- What the contracts of try_c_text cite.
pub mod Told
