pub mod Exit
pub mod Lines
pub mod Verdict
pub mod Asked
pub mod Runs
