pub mod Product
pub mod Reading
pub mod Meaning
pub mod Hundred
pub mod Figures
