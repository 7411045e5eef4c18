pub mod Fits
pub mod Meaning
pub mod Unique
