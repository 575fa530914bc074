pub mod Shown
pub mod Falls
pub mod Nodes
