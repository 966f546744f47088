pub mod Listed
pub mod Places
pub mod Parts
pub mod Walks
