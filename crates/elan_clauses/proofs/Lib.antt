pub mod TurnLemmas
pub mod SeenLemmas
pub mod TextLemmas
pub mod NumberLemmas
pub mod BoundLemmas
pub mod RuleLemmas
pub mod CheckedLemmas
pub mod ReadableLemmas
