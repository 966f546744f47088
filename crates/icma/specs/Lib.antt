pub mod walks
pub mod parts
