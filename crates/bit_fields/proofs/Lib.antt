pub mod Bits
pub mod BitWriters
pub mod Examples
