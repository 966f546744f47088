pub mod Judging
pub mod Added
pub mod OneOutcome
pub mod Examples
