pub mod lines
pub mod note
