pub mod Names
pub mod Streams
pub mod Whole
