pub mod Passes
pub mod OneOutcome
pub mod Examples
