pub mod Texts
pub mod OneOutcome
pub mod Examples
