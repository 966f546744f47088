pub mod table
pub mod days
