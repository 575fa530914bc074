pub mod GroupLemmas
pub mod IndexLemmas
pub mod ResolveLemmas
pub mod LeafLemmas
pub mod ValidLemmas
pub mod Rows
