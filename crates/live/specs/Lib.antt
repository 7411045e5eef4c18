pub mod Live
pub mod Theorems
