pub mod Rolled
pub mod Rolling
pub mod OneOutcome
pub mod Examples
