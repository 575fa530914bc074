pub mod TreeLemmas
pub mod TermLemmas
pub mod WeightLemmas
pub mod MatchLemmas
pub mod OrderLemmas
pub mod SortLemmas
pub mod HeadLemmas
pub mod Lists
pub mod Induction
pub mod NodeLemmas
pub mod OrderLaws
pub mod Sorting
pub mod PartLemmas
pub mod SublistLemmas
pub mod TestLemmas
mod Examples
