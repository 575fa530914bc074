pub mod Answers
pub mod ReadAs
pub mod Asked
