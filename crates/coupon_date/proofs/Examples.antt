-- Coupon dates that the paper and the lists of slips name, as theorems about the definitions.
use Prim.Native.Nat.{ℕ}
use mathlib.Core.Path.{◌≡◌, refl}
use Rattle.outcome.specs.Outcome.{given, refused}
use Rattle.calendar.specs.gregorian.Gregorian.{leap, length_in, month_length}
use Rattle.coupon_date.specs.Coupons.{coupon_date_of}
use Rattle.coupon_date.specs.declared.CouponDate.{CouponDate}

abbrev pub on : ℕ → ℕ → CouponDate
on d m = record { day = d; month = m }

-- the pairs at the edges: 29.02, and 256 and 257, which are 0 and 1 in eight bits
pub record Pairs : Type 0 where
  pub mid_july : coupon_date_of 15 7 ≡ given (on 15 7)
  pub leap-day : coupon_date_of 29 2 ≡ refused 8
  pub day-zero : coupon_date_of 0 7 ≡ refused 7
  pub month_zero : coupon_date_of 15 0 ≡ refused 7
  pub month_13 : coupon_date_of 15 13 ≡ refused 7
  pub day_256 : coupon_date_of 256 1 ≡ refused 8
  pub day_257 : coupon_date_of 257 1 ≡ refused 8

pub pairs : Pairs
unfolding coupon_date_of leap length_in month_length
pairs = record { mid_july = refl; leap-day = refl; day-zero = refl; month_zero = refl; month_13 = refl; day_256 = refl; day_257 = refl }
