pub mod Laws
pub mod Pairs
pub mod Meaning
pub mod Read
pub mod Unique
