pub mod Line
pub mod Text
pub mod Live
pub mod Meaning
pub mod Session
