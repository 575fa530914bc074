pub mod Words
pub mod Settings
pub mod Line
pub mod Ranges
pub mod Command
pub mod Refusals
pub mod Uses
