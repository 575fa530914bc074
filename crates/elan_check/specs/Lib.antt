pub mod Laid
pub mod Lent
pub mod SortIndex
pub mod Small
pub mod Walk
pub mod Fits
pub mod Validity
