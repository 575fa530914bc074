pub mod Sound
pub mod EdgeLemmas
pub mod ReadingLemmas
pub mod SortLaws
pub mod Operands
