-- Laws of entry_extend.
pub mod Stages
pub mod AnswerLaws
