pub mod Single
pub mod Toy
