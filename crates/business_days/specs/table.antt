pub mod Table
pub mod Business
pub mod Search
