pub mod OneOutcome
pub mod Judging
