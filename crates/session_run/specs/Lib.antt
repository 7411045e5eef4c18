pub mod Laws
pub mod SessionRun
