pub mod Laws
pub mod OneLine
pub mod Unique
pub mod Lines
pub mod Flaws
pub mod HexPairs
pub mod Texts
pub mod RoundTrip
