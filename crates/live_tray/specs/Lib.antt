pub mod LiveTray
pub mod Theorems
