pub mod Laws
pub mod PresetPairs
pub mod Unique
