pub mod Line
pub mod Export
pub mod Import
pub mod Flaw
pub mod HexPairs
pub mod Theorems
