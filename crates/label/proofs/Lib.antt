pub mod Addresses
pub mod Kept
pub mod Unique
