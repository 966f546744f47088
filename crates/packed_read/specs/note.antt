pub mod Codes
pub mod Records
