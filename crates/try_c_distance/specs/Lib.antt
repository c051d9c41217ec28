-- What the contracts of try_c_distance cite.
pub mod Fits
pub mod Outcome
pub mod Told
