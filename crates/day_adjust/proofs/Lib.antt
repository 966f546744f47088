pub mod Near
pub mod Adjusting
pub mod OneOutcome
pub mod Examples
