-- Signed 32-bit numbers as the code has them: negated, and their sign and magnitude apart.
use Prim.Native.Nat.{ℕ, zero, suc, ◌+◌, ◌-◌, ◌*◌, ◌^◌, ◌≤◌, ◌<◌}
use mathlib.Core.Path.{◌≡◌, refl, sym, ◌∙◌, ap, subst}
use mathlib.Core.Bool.{true, false, false≢true, true≢false}
use mathlib.Core.List.{List}
use native.Mathlib.Omega.{arith}
use lib.IntN.{ℤ, pos, negsuc, neg_ℤ, nat_abs, ◌+ℤ◌, ◌-ℤ◌, ◌*ℤ◌, +ℤ_idl, -ℤ-+ℤ_cancel}
use lib.Signed.{mag, lt_z}
use mir.Syntax.{w32}
use mir.Val.{SFits, to_z, of_z}
use mir.Facts.{to_z-of_z}
use borrow.Author.Tests.{eqb-false, lt-ltb, ltb-true, ltb-false}
use Rattle.outcome.specs.Signs.{is_negative}
use Rattle.business_days.specs.table.Business.{later_from, earlier_from}
use Rattle.outcome.specs.Outcome.{and_then}
use Rattle.calendar.specs.dates.Dates.{day_number}
use Rattle.calendar.specs.serial.Answers.{date_of}
use Rattle.calendar.specs.declared.dates.Date.{Date}
use Rattle.time_period.specs.steps.Steps.{table, is_least, business_step}

-- what is told of a struct's number
pub told : (z : ℤ) → mag z < 2 ^ 31 → SFits w32 z
told z h = record { sfits = h }

-- ---- negated: all but the least fit

pub positive_not_least : (z : ℤ) → lt_z (pos 0) z ≡ true → is_least z ≡ false
positive_not_least (pos n) e = refl
positive_not_least (negsuc n) e = absurd (false≢true e)

negative_fits : (z : ℤ) → SFits w32 z → is_least z ≡ false → SFits w32 (neg_ℤ z)
negative_fits (pos zero) f e = f
negative_fits (pos (suc n)) f e = record { sfits = omega (arith, f.sfits) }
negative_fits (negsuc n) f e = record { sfits = omega (arith, f.sfits, eqb-false n 2147483647 e) }

module _ (z : ℤ) (f : SFits w32 z) (e : is_least z ≡ false) where
  minus_is : pos 0 -ℤ to_z w32 (of_z w32 z) ≡ neg_ℤ z
  minus_is = +ℤ_idl (neg_ℤ (to_z w32 (of_z w32 z))) ∙ ap neg_ℤ (to_z-of_z f)

  pub minus_fits : SFits w32 (pos 0 -ℤ to_z w32 (of_z w32 z))
  minus_fits = subst (SFits w32) (sym minus_is) (negative_fits z f e)

  pub minus_read : to_z w32 (of_z w32 (pos 0 -ℤ to_z w32 (of_z w32 z))) ≡ neg_ℤ z
  minus_read = to_z-of_z minus_fits ∙ minus_is

-- ---- business days, by the sign and the magnitude

module _ (h : List ℕ) (t : Date) (d k : ℕ) (e : d ≡ day_number t) where
  pub business_back : (z : ℤ) → is_negative z ≡ true → k ≡ nat_abs z → and_then (earlier_from h k d) date_of ≡ business_step z (table h) t
  unfolding business_step
  business_back (pos n) s m = absurd (false≢true s)
  business_back (negsuc n) s m = rw (e, m)

  pub business_on : (z : ℤ) → is_negative z ≡ false → k ≡ nat_abs z → and_then (later_from h k d) date_of ≡ business_step z (table h) t
  unfolding business_step
  business_on (pos n) s m = rw (e, m)
  business_on (negsuc n) s m = absurd (true≢false s)

-- ---- above zero and below

-- a code's test for a number of at least 1
pub positive : (z : ℤ) → lt_z z (pos 1) ≡ false → lt_z (pos 0) z ≡ true
positive (pos n) e = lt-ltb 0 n (omega (arith, ltb-false n 1 e))
positive (negsuc n) e = absurd (true≢false e)

negated_is : (m : ℕ) → 1 ≤ m → neg_ℤ (pos m) ≡ negsuc (m - 1)
negated_is zero h = absurd (omega arith)
negated_is (suc n) h = ap negsuc (omega arith)

pub seven_on : (z : ℤ) → lt_z (pos 0) z ≡ true → lt_z (pos 0) (pos 7 *ℤ z) ≡ true
seven_on (pos n) e = lt-ltb 0 (7 * n) (omega (arith, ltb-true 0 n e))
seven_on (negsuc n) e = absurd (false≢true e)

pub seven_back : (z : ℤ) → lt_z z (pos 0) ≡ true → lt_z (pos 7 *ℤ z) (pos 0) ≡ true
seven_back (pos n) e = absurd (omega (arith, ltb-true n 0 e))
seven_back (negsuc n) e = rw (negated_is (7 * suc n) (omega arith))

pub negative_back : (z : ℤ) → lt_z (pos 0) z ≡ true → lt_z (neg_ℤ z) (pos 0) ≡ true
negative_back (pos zero) e = absurd (omega (arith, ltb-true 0 0 e))
negative_back (pos (suc n)) e = refl
negative_back (negsuc n) e = absurd (false≢true e)

pub above : (z : ℤ) → lt_z (pos 0) z ≡ true → (z ≡ pos (nat_abs z)) × (1 ≤ nat_abs z)
above (pos n) e = (refl, ltb-true 0 n e)
above (negsuc n) e = absurd (false≢true e)

pub below : (z : ℤ) → lt_z z (pos 0) ≡ true → (z ≡ negsuc (nat_abs z - 1)) × (1 ≤ nat_abs z)
below (pos n) e = absurd (omega (arith, ltb-true n 0 e))
below (negsuc n) e = (ap negsuc (omega arith), omega arith)

-- where a move by n leads, on and back
pub moved_by : (a b n : ℕ) → pos a +ℤ pos n ≡ pos b → a + n ≡ b
moved_by a b n s = cc

pub moved_back_by : (a b n : ℕ) → pos a +ℤ neg_ℤ (pos n) ≡ pos b → b + n ≡ a
moved_back_by a b n s = moved_by b a n (sym (ap (λ (z : ℤ). z +ℤ pos n) s) ∙ -ℤ-+ℤ_cancel (pos a) (pos n))

-- a sum with a number above zero is more, and with one below it less
pub moved_on : (a b : ℕ) (z : ℤ) → lt_z (pos 0) z ≡ true → pos a +ℤ z ≡ pos b → a < b
moved_on a b (pos n) e s = omega (arith, ltb-true 0 n e, moved_by a b n s)
moved_on a b (negsuc n) e s = absurd (false≢true e)

pub moved_back : (a b : ℕ) (z : ℤ) → lt_z z (pos 0) ≡ true → pos a +ℤ z ≡ pos b → b < a
moved_back a b (pos n) e s = absurd (omega (arith, ltb-true n 0 e))
moved_back a b (negsuc n) e s = omega (arith, moved_back_by a b (suc n) s)
