pub mod Flows
pub mod Dues
pub mod Collecting
