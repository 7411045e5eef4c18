pub mod Numbers
pub mod Charge
pub mod Run
pub mod Laws
pub mod Unique
