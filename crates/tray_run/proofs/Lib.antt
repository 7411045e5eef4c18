pub mod Turns
pub mod TakeOut
pub mod OwnRoom
pub mod Unique
