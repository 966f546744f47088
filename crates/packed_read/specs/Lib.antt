pub mod table
pub mod note
pub mod packed
