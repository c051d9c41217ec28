-- What the contracts of distance_query cite.
pub mod Ready
