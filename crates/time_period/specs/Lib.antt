pub mod steps
pub mod added
