-- What a coupon date that is given is: the pair that was judged, within its limits.
use Prim.Native.Nat.{ℕ, ◌≤◌}
use mathlib.Core.Path.{◌≡◌, sym}
use lib.Dec.{leb}
use borrow.Author.Tests.{leb-true}
use Rattle.outcome.specs.Outcome.{given, unless, both}
use Rattle.outcome.proofs.Outcomes.{given_injective, unless-given, both_true}
use Rattle.outcome.proofs.Numbers.{between}
use Rattle.calendar.specs.gregorian.Gregorian.{month_length}
use Rattle.coupon_date.specs.Coupons.{coupon_date_of}
use Rattle.coupon_date.specs.declared.CouponDate.{CouponDate}

pub record IsCoupon (d m : ℕ) (c : CouponDate) : Type 0 where
  pub itself : c ≡ record { day = d; month = m }
  pub month_to : m ≤ 12
  pub day-to : d ≤ month_length 2019 m

pub coupon-yes : (d m : ℕ) (c : CouponDate) → coupon_date_of d m ≡ given c → IsCoupon d m c
unfolding coupon_date_of
coupon-yes d m c e =
    let a = unless-given (both (leb 1 d) (both (leb 1 m) (leb m 12))) 7 (unless (leb d (month_length 2019 m)) 8 (given (record { day = d; month = m }))) c e in
    let b = unless-given (leb d (month_length 2019 m)) 8 (given (record { day = d; month = m })) c a.1 in
    record {
      itself = sym (given_injective b.1);
      month_to = (between 1 m 12 (both_true (leb 1 d) (both (leb 1 m) (leb m 12)) a.0).1).1;
      day-to = leb-true d (month_length 2019 m) b.0;
    }
