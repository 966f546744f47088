pub mod Codes
pub mod Accepted
