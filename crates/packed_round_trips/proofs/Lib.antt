pub mod Tables
pub mod Digits
pub mod Notes
pub mod Written
pub mod Read
pub mod RoundTrips
