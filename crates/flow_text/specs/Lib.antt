pub mod date
pub mod amount
pub mod flow
pub mod refusal
