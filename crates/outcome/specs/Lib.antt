pub mod Lists
pub mod Outcome
pub mod Refusals
pub mod Walks
pub mod Room
pub mod Signs
