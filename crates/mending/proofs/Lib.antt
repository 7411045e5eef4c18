pub mod Laws
pub mod Worth
pub mod Example
pub mod Unique
pub mod MendPairs
