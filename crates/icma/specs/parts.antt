pub mod Walk
pub mod Leads
pub mod Cut
