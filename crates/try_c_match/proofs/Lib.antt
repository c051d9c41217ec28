-- Laws of try_c_match.
pub mod Matches
pub mod Answers
