pub mod Names
pub mod Groups
pub mod Indexed
pub mod Resolved
pub mod Gives
pub mod Valid
