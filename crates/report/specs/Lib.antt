pub mod Line
pub mod Told
pub mod Examples
