pub mod Halves
pub mod Bits
pub mod Answers
pub mod OneOutcome
pub mod Examples
