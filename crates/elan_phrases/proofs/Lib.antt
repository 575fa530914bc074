pub mod SymbolSets
pub mod ExactTokens
pub mod ExactTexts
pub mod ExactSorts
pub mod ExactStrategies
pub mod SortMarks
pub mod StrategyMarks
pub mod PlanLemmas
