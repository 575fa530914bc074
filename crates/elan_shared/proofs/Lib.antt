pub mod NodeLemmas
pub mod OrderLemmas
