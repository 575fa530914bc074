pub mod StrategyLemmas
pub mod StrategyWeights
pub mod ShiftLemmas
pub mod ShapeLemmas
pub mod PatternLemmas
pub mod ValidLemmas
pub mod ChainLemmas
pub mod ActualLemmas
