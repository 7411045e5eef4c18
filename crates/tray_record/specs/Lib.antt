pub mod Wire
pub mod Tray
