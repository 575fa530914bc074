pub mod Plain
pub mod Places
pub mod Values
pub mod Looks
pub mod Walks
