pub mod Explanation
pub mod Answers
pub mod Examples
