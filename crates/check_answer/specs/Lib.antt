-- What the contracts of check_answer cite.
pub mod Answer
