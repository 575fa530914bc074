pub mod Keeping
pub mod ListLemmas
pub mod SortFits
pub mod Values
pub mod Parts
pub mod Ground
pub mod Steps
pub mod Checked
pub mod Reducing
pub mod Extending
pub mod Unlabelled
pub mod Levels
mod Examples
pub mod Congruences
