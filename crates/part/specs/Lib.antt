pub mod Format
pub mod Record
pub mod Events
pub mod Layout
pub mod Frame
pub mod Kinds
pub mod Samples
pub mod Examples
