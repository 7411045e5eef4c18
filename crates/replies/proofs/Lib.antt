pub mod Listed
pub mod Unique
