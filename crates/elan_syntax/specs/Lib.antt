pub mod Grammar
pub mod PlainGrammar
pub mod Outlines
