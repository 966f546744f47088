pub mod Adjustment
