pub mod After
pub mod Promises
