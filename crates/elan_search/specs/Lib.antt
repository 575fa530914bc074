pub mod Bounds
pub mod Next
pub mod Place
