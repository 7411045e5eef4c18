pub mod Layout
pub mod State
pub mod Tested
pub mod TrayState
pub mod Places
pub mod Steps
pub mod Theorems
