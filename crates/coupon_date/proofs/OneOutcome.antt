-- No second answer satisfies an entry point's promise; and a refusal's number is never 0.
use Rattle.coupon_date.specs.declared.CouponDate.{CouponDate}
use Rattle.std.specs.Prelude.{Result}
use Prim.Native.Nat.{ℕ}
use mathlib.Core.Path.{◌≡◌, sym, ◌∙◌}
use native.Mathlib.Omega.{arith}
use lib.Dec.{leb}
use Rattle.outcome.specs.Outcome.{Numbered, both}
use Rattle.outcome.specs.Refusals.{outcome_of}
use Rattle.outcome.specs.declared.Refusal.{Refusal}
use Rattle.outcome.proofs.Outcomes.{unless_numbered, Returns, returns}
use Rattle.outcome.proofs.Refusals.{same_result}
use Rattle.calendar.specs.gregorian.Gregorian.{month_length}
use Rattle.coupon_date.specs.Coupons.{coupon_zero, coupon_returned, coupon_date_of, NewPromise}

-- a refusal returns its number and the zero
pub coupon-returned : Returns outcome_of coupon_zero coupon_returned
coupon-returned = returns outcome_of coupon_zero

pub one_new : (d m : ℕ) (r s : Result CouponDate Refusal) → NewPromise d m r → NewPromise d m s → r ≡ s
one_new d m r s p q = same_result r s (p ∙ sym q)

pub new_numbered : (d m : ℕ) → Numbered (coupon_date_of d m)
unfolding coupon_date_of
new_numbered d m =
    unless_numbered (both (leb 1 d) (both (leb 1 m) (leb m 12))) 7 _ (omega arith)
    (unless_numbered (leb d (month_length 2019 m)) 8 _ (omega arith) (omega arith))
