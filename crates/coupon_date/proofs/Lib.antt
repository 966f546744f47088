pub mod Coupons
pub mod OneOutcome
pub mod Examples
