pub mod Signs
pub mod Frequencies
pub mod Steps
pub mod OneOutcome
pub mod Examples
