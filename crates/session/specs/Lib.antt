pub mod Session
pub mod Example
