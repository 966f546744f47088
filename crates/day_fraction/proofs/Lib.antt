pub mod Differences
pub mod Spans
pub mod Adjusted
pub mod Bounds
pub mod Values
pub mod Impossible
pub mod Written
pub mod Examples
