pub mod Fields
pub mod Records
pub mod Tables
pub mod Answers
pub mod OneOutcome
pub mod Examples
