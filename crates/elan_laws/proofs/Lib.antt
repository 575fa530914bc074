pub mod CanonicalLaws
pub mod PartLaws
pub mod TimesLaws
pub mod MatchLaws
pub mod Multisets
pub mod EqualityLaws
pub mod SortLaws
pub mod TestLemmas
mod Examples
pub mod InjectionLaws
