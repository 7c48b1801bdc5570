pub mod Inventory
pub mod Answers
pub mod Examples
