pub mod Fields
pub mod Writing
