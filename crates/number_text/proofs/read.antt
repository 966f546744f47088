pub mod Decimals
pub mod Numberings
pub mod Signs
pub mod OneOutcome
pub mod Examples
