-- Laws of entry_build.
pub mod Stages
pub mod AnswerLaws
