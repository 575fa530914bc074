pub mod Lows
pub mod Sights
pub mod Tells
pub mod Nodes
pub mod Plans
pub mod Matches
