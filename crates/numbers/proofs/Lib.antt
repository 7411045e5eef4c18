pub mod Bounds
pub mod Offset
pub mod Meaning
pub mod Unique
pub mod Table
