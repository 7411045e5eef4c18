pub mod Laws
pub mod TrayRun
