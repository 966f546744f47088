pub mod CouponTexts
