pub mod Example
pub mod Unique
