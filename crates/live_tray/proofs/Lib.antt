pub mod TrayServing
pub mod Theorems
pub mod Unique
