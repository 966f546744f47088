pub mod Later
pub mod Records
pub mod Walked
pub mod OneOutcome
pub mod Examples
