pub mod Landing
pub mod Steps
pub mod Examples
pub mod OneOutcome
