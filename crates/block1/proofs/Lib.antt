pub mod Laws
pub mod Kept
pub mod Unique
pub mod OffsetConversion
