pub mod Table
pub mod Counting
pub mod Months
pub mod Years
pub mod OneOutcome
