pub mod period
pub mod coupon
