pub mod Closing
pub mod ListLemmas
pub mod LevelLemmas
pub mod BuiltinLemmas
