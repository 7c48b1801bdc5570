pub mod Transcript
pub mod Examples
