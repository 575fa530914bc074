pub mod FlatLemmas
pub mod Asking
pub mod Telling
pub mod Verdicts
pub mod Leaving
pub mod Causes
pub mod Reports
pub mod Printing
