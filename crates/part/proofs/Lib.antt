pub mod Fields
pub mod Rising
pub mod Places
pub mod KindBytes
