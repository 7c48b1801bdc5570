pub mod Closures
pub mod Answers
pub mod Pieces
pub mod Examples
