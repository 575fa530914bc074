pub mod Signature
pub mod Strategies
pub mod Extension
pub mod Builtins
pub mod Spelling
pub mod Soundness
pub mod Patterns
pub mod Validity
