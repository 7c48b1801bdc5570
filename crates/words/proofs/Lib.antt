pub mod Sets
pub mod Pairs
pub mod LittleEndian
pub mod LaidLaws
pub mod Arrays
