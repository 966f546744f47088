pub mod Dates
pub mod Order
pub mod Inverse
pub mod Examples
pub mod OneOutcome
pub mod Weekdays
pub mod Compared
