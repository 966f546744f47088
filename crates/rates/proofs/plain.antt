pub mod Counted
pub mod OneOutcome
pub mod Examples
