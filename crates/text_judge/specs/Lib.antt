-- What the contracts of text_judge cite.
pub mod Tally
pub mod Judged
