pub mod Shares
pub mod Sizes
pub mod Singles
pub mod Nodes
pub mod Lesser
