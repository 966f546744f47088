pub mod Notes
pub mod OneOutcome
