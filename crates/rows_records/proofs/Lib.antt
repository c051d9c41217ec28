-- The laws of chunks, and plain facts of lists and counts.
pub mod Rest
pub mod Chunk
