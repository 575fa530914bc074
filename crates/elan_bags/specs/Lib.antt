pub mod Bags
pub mod Choices
pub mod Cuts
