pub mod ProfileLaws
pub mod Unique
pub mod Laws
