pub mod read
pub mod length
pub mod write
