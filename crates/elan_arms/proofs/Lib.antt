pub mod Times
pub mod Patterns
pub mod Nodes
pub mod Places
pub mod Agreement
pub mod Brought
pub mod Parts
pub mod Found
mod Examples
