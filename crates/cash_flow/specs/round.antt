pub mod RoundedAmounts
pub mod Fields
