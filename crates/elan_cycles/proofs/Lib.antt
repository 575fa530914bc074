pub mod Elements
pub mod PathLemmas
pub mod SearchLemmas
pub mod MarkLemmas
pub mod RankLemmas
pub mod FirstLemmas
