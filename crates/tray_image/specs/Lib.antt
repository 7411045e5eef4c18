pub mod TrayImage
