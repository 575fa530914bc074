pub mod RowLemmas
pub mod SizeLemmas
pub mod SingleLemmas
pub mod ChoiceLemmas
pub mod NodeLemmas
pub mod ShareLemmas
