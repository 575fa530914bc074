pub mod Parts
pub mod Matching
pub mod Equality
pub mod Injections
