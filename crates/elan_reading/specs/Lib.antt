pub mod Edge
pub mod Lexemes
pub mod Readings
pub mod Answers
pub mod Operands
