pub mod Ends
pub mod AmountBound
pub mod OneOutcome
pub mod Examples
