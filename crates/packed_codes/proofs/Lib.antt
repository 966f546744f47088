pub mod Codes
pub mod OneOutcome
