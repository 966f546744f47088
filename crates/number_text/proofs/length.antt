pub mod Signs
pub mod Numerals
pub mod Digits
pub mod Shortest
pub mod RoundTrips
pub mod OneOutcome
pub mod Examples
