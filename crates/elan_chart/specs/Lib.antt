pub mod Offers
pub mod Chart
pub mod Answer
pub mod Spans
pub mod Result
pub mod Fitting
