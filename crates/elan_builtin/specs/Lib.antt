pub mod Reduce
pub mod Stands
