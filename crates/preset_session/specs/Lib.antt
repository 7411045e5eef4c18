pub mod PresetSession
pub mod PresetPairs
