-- What the contracts of build_merging cite.
pub mod Standing
