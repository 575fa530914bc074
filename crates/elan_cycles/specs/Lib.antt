pub mod Edges
pub mod Search
pub mod Marks
