pub mod Plain
pub mod Counted
