pub mod answers
pub mod arguments
