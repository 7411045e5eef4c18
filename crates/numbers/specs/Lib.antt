pub mod Choice
pub mod Offset
pub mod Once
