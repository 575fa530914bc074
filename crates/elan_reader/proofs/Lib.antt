pub mod AnswerLemmas
pub mod ReaderLemmas
