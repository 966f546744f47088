pub mod Columns
pub mod OneOutcome
pub mod Examples
