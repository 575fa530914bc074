pub mod ExactGrammar
pub mod ExactStreams
pub mod Whole
pub mod Turns
pub mod SortWords
pub mod PlainRules
pub mod PlainStrategies
pub mod FreshNames
