pub mod Search
pub mod Paths
