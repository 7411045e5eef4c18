pub mod Image
pub mod Record
pub mod Meaning
