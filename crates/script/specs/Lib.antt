pub mod Operation
pub mod Sequence
pub mod Answers
pub mod Examples
