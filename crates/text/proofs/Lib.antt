pub mod Decimals
pub mod HexLaws
