pub mod Table
pub mod Places
pub mod Steps
pub mod Days
pub mod Examples
pub mod Judging
pub mod Counted
