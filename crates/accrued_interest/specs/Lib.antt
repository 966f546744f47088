pub mod period
pub mod note
