-- No second answer satisfies an entry point's promise; and a refusal's number is never 0.
use Rattle.std.specs.Prelude.{Result}
use Prim.Native.Nat.{ℕ}
use mathlib.Core.Path.{◌≡◌, sym, ◌∙◌}
use mathlib.Core.List.{List}
use native.Mathlib.Omega.{arith}
use Rattle.outcome.specs.Outcome.{Numbered}
use Rattle.outcome.specs.Refusals.{outcome_of}
use Rattle.outcome.specs.declared.Refusal.{Refusal}
use Rattle.outcome.proofs.Outcomes.{unless_numbered, then_numbered}
use Rattle.outcome.proofs.Refusals.{same_result}
use Rattle.number_text.specs.read.Reading.{unsigned_number}
use Rattle.number_text.specs.write.Writing.{Written}
use Rattle.number_text.proofs.write.OneOutcome.{one_write}
use Rattle.coupon_date.proofs.OneOutcome.{new_numbered}
use Rattle.number_text.proofs.read.Decimals.{unsigned_numbered}
use Rattle.term_text.specs.coupon.CouponTexts.{trimmed, has_dot, up_to_dot, after_dot, month_part, day_part, coupon_text, coupon_date_text, ReadCouponPromise}
use Rattle.coupon_date.specs.Coupons.{coupon_date_of}
use Rattle.coupon_date.specs.declared.CouponDate.{CouponDate}

pub one_read : (t : List ℕ) (r s : Result CouponDate Refusal) → ReadCouponPromise t r → ReadCouponPromise t s → r ≡ s
one_read t r s p q = same_result r s (p ∙ sym q)

-- the answer and the bytes
pub one_written : (c : CouponDate) (d e f : List ℕ) (r s : Result ℕ Refusal) → Written d e (coupon_date_text c) (outcome_of r) → Written d f (coupon_date_text c) (outcome_of s) → (r ≡ s) × (e ≡ f)
one_written c d e f r s p q = one_write d e f (coupon_date_text c) r s p q

month_numbered : (d : ℕ) (s : List ℕ) → Numbered (month_part d s)
unfolding month_part
month_numbered d s = then_numbered (unsigned_number 6 (up_to_dot s)) (coupon_date_of d) (unsigned_numbered 6 (up_to_dot s) (omega arith)) (new_numbered d)

pub read_numbered : (s : List ℕ) → Numbered (coupon_text s)
unfolding coupon_text day_part
read_numbered s =
    let t = trimmed s in
    unless_numbered (has_dot t) 6 _ (omega arith)
    (then_numbered (unsigned_number 6 (up_to_dot t)) (λ d. month_part d (after_dot t)) (unsigned_numbered 6 (up_to_dot t) (omega arith)) (λ d. month_numbered d (after_dot t)))
