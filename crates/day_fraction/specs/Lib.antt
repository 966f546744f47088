pub mod Exact
pub mod Fractions
