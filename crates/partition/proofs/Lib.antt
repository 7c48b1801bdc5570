pub mod Sorted
pub mod ClassRows
pub mod ClassSeen
pub mod ClassCounts
pub mod Refined
pub mod Limits
