pub mod Closures
pub mod Engine
pub mod Level
