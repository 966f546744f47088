pub mod big_digits
pub mod four_decimals
pub mod float
