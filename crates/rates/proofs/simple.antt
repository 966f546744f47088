pub mod Streams
pub mod OneOutcome
pub mod Examples
