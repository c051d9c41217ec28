-- Laws of check_answer.
pub mod AnswerLaws
pub mod Search
