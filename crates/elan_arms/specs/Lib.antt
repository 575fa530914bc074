pub mod Arms
pub mod Values
