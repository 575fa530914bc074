pub mod Demo
