pub mod Relations
pub mod Sets
pub mod Theorems
pub mod Computed
pub mod Examples
