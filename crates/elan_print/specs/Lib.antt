pub mod Tokens
pub mod Terms
pub mod Sides
pub mod Pages
pub mod Refusals
pub mod Reports
pub mod Laws
