pub mod SortLemmas
pub mod SmallLemmas
pub mod WalkLemmas
pub mod StepLemmas
