pub mod Sets
pub mod Arrays
pub mod Pairs
pub mod LittleEndian
pub mod Laid
