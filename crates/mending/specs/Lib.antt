pub mod Mending
pub mod Worth
pub mod MendPairs
