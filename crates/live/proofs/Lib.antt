pub mod Serving
pub mod Theorems
pub mod Unique
