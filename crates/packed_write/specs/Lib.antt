pub mod numbers
pub mod packed
