pub mod Bytes
pub mod Places
pub mod Pieces
pub mod Text
pub mod Spans
pub mod Cut
pub mod Lex
