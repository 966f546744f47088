pub mod schedule
pub mod flows
