pub mod NormalRules
pub mod PlaceRules
pub mod StrategyRules
pub mod ClauseRules
pub mod GoesLemmas
pub mod Steps
pub mod LawLemmas
mod Examples
pub mod Fixed
pub mod RowLemmas
