pub mod Ways
pub mod Walking
pub mod Laws
pub mod Skips
