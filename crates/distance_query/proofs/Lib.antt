-- Laws of distance_query.
pub mod Ready
