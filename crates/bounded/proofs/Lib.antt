pub mod Search
pub mod Truth
pub mod Lists
pub mod Paths
