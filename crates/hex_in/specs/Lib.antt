pub mod HexIn
