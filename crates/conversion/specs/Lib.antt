pub mod Conversion
pub mod Meaning
