pub mod Digits
pub mod SameLemmas
pub mod NodeLemmas
pub mod FoundLemmas
pub mod PutLemmas
