pub mod Trees
pub mod Falls
pub mod Found
pub mod Sets
pub mod Lexemes
pub mod Pieces
