pub mod RowLemmas
pub mod OutcomeLemmas
pub mod NotedLemmas
pub mod BuiltLemmas
pub mod CycleLemmas
pub mod SpellingLemmas
pub mod SoundLemmas
pub mod LawLemmas
