pub mod PieceBytes
pub mod Refusals
