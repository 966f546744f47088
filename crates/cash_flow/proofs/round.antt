pub mod OneOutcome
pub mod Examples
pub mod Whole
pub mod Fields
pub mod Limits
pub mod Meaning
