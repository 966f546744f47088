pub mod Multiplying
pub mod Zeros
pub mod OneOutcome
