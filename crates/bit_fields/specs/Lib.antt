pub mod Bits
pub mod BitWriters
