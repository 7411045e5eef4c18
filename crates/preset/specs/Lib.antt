pub mod Preset
