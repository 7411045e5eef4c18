pub mod Block1
pub mod OffsetConversion
