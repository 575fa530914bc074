pub mod Libraries
pub mod Asked
