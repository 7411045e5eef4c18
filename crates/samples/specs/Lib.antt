pub mod Samples
pub mod Stretch
