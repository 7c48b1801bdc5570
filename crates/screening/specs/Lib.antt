pub mod Rejections
pub mod Answers
pub mod MachineFacts
pub mod Machine
pub mod Theorems
pub mod Computed
pub mod Examples
