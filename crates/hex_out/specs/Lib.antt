pub mod HexOut
