-- Coupon dates: the check of a pair of numbers.
use Rattle.std.specs.Prelude.{ℕ, ◌≡◌, leb, Result}
use Rattle.outcome.specs.Outcome.{Outcome, given, returned, unless, both}
use Rattle.outcome.specs.Refusals.{outcome_of}
use Rattle.outcome.specs.declared.Refusal.{Refusal}
use Rattle.calendar.specs.gregorian.Gregorian.{month_length}
use Rattle.coupon_date.specs.declared.CouponDate.{CouponDate}

-- its zero, and what is returned of it
abbrev pub coupon_zero : CouponDate
coupon_zero = record { day = 0; month = 0 }

abbrev pub coupon_returned : Result CouponDate Refusal → ℕ × CouponDate
coupon_returned r = returned coupon_zero (outcome_of r)

-- day 0, month 0 or month above 12 is 7; a day past the month's end in 2019 is 8
unfoldable pub coupon_date_of : ℕ → ℕ → Outcome CouponDate
coupon_date_of d m =
    unless (both (leb 1 d) (both (leb 1 m) (leb m 12))) 7
    (unless (leb d (month_length 2019 m)) 8
    (given (record { day = d; month = m })))

-- what the entry point promises of its result r
abbrev pub NewPromise : ℕ → ℕ → Result CouponDate Refusal → Type 0
NewPromise d m r = outcome_of r ≡ coupon_date_of d m
