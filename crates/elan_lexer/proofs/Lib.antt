pub mod Answered
pub mod Counts
pub mod Fronts
pub mod Inside
pub mod SpanLemmas
pub mod Texts
