pub mod Numbers
pub mod Judged
pub mod Whole
pub mod Agreement
pub mod Walks
pub mod Bounds
pub mod OneOutcome
pub mod Examples
