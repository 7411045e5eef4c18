pub mod Library
pub mod Theorems
