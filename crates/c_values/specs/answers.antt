pub mod HandOver
pub mod Coded
