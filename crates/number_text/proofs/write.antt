pub mod Putting
pub mod Writers
pub mod Shown
pub mod OneOutcome
pub mod Examples
