pub mod Lines
pub mod Told
pub mod Turn
pub mod Examples
