pub mod PlaceLemmas
pub mod StepLemmas
pub mod OwedLemmas
pub mod SearchLemmas
