pub mod Refusals
pub mod Texts
pub mod Readable
pub mod Rules
pub mod Seen
pub mod Offered
pub mod Gives
