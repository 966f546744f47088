pub mod OneOutcome
pub mod Limits
