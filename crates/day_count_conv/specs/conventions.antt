pub mod Conventions
pub mod Whole
pub mod Judging
