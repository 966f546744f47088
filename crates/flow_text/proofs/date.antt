pub mod Dates
pub mod OneOutcome
