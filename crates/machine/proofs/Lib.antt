pub mod Silent
pub mod Traces
pub mod Noninterference
pub mod Limited
pub mod Hookup
pub mod Earlier
