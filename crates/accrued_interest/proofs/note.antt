pub mod Walk
pub mod Bound
pub mod OneOutcome
pub mod Examples
