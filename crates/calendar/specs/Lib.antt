pub mod gregorian
pub mod dates
pub mod serial
