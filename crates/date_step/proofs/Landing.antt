-- Where a signed move leads: what the machine computes at 64 bits is the sum of whole numbers.
use Prim.Native.Nat.{ℕ, suc, ◌+◌, ◌-◌, ◌^◌, ◌≤◌, ◌<◌}
use mathlib.Core.Path.{◌≡◌, refl, sym, ◌∙◌, ap, ap₂, subst}
use mathlib.Core.Bool.{Bool, true, false, cond, false≢true}
use native.Mathlib.Omega.{arith}
use lib.Dec.{T, ltb}
use lib.IntN.{ℤ, pos, negsuc, ◌+ℤ◌, nat_abs}
use lib.Signed.{mag, lt_z, non_neg, pos-nat_abs}
use mir.Syntax.{w32, w64}
use mir.Val.{SFits, to_z, of_z}
use mir.Facts.{to_z-of_z, to_z_pos}
use borrow.Author.Tests.{ltb-true, ltb-false, lt-leb, lt-ltb}
use Rattle.outcome.proofs.Numbers.{widened}
use Rattle.outcome.specs.Outcome.{given, refused}
use Rattle.date_step.specs.Steps.{from_zero_to}
use Rattle.date_step.proofs.Steps.{lands_at}

-- a number and a negative one that is the greater
sum_below : (a k : ℕ) → a ≤ k → pos a +ℤ negsuc k ≡ negsuc (k - a)
sum_below a k h = rw (lt-ltb a (suc k) (omega arith)) (ap negsuc (omega arith))

module _ (last : ℕ) where
  -- below 0 there is no place
  pub below : (z : ℤ) → lt_z z (pos 0) ≡ true → refused 1 ≡ from_zero_to last z
  unfolding from_zero_to
  below (pos k) e = absurd (omega (arith, ltb-true k 0 e))
  below (negsuc k) e = refl

  -- nor past the last
  pub beyond : (z : ℤ) → lt_z (pos last) z ≡ true → refused 1 ≡ from_zero_to last z
  unfolding from_zero_to
  beyond (pos k) e = rw (lt-leb k last (ltb-true last k e))
  beyond (negsuc k) e = absurd (false≢true e)

  pub within : (z : ℤ) → T (non_neg z) → lt_z (pos last) z ≡ false → nat_abs z ≤ last
  within (pos k) t e = ltb-false last k e
  within (negsuc k) t e = absurd t

  pub lands : (z : ℤ) → T (non_neg z) → lt_z (pos last) z ≡ false → given (nat_abs z) ≡ from_zero_to last z
  lands z t e = sym (lands_at last (nat_abs z) (within z t e)) ∙ ap (from_zero_to last) (pos-nat_abs z t)

  -- a move of more than the whole calendar leads out of it
  module _ (a most : ℕ) (ha : a ≤ most) (hl : last ≤ most) where
    pub far_back : (n : ℤ) → lt_z n (negsuc (most - 1)) ≡ true → refused 1 ≡ from_zero_to last (pos a +ℤ n)
    unfolding from_zero_to
    far_back (pos k) e = absurd (false≢true e)
    far_back (negsuc k) e = let l : most - 1 < k = ltb-true (most - 1) k e in rw (sum_below a k (omega arith))

    pub far_on : (n : ℤ) → lt_z (pos most) n ≡ true → refused 1 ≡ from_zero_to last (pos a +ℤ n)
    unfolding from_zero_to
    far_on (pos k) e = let l : most < k = ltb-true most k e in rw (lt-leb (a + k) last (omega arith))
    far_on (negsuc k) e = absurd (false≢true e)

-- any other move is short
pub near : (n : ℤ) → lt_z n (negsuc 3652058) ≡ false → lt_z (pos 3652059) n ≡ false → mag n < 17179869184
near (pos k) p q = let l : k ≤ 3652059 = ltb-false 3652059 k q in omega arith
near (negsuc k) p q = let l : k ≤ 3652058 = ltb-false 3652058 k p in omega arith

-- and a short one's sum fits 64 bits
pub sum_fits : (a : ℕ) (n : ℤ) → a ≤ 3652059 → mag n < 17179869184 → SFits w64 (pos a +ℤ n)
sum_fits a (pos k) h m = record { sfits = omega arith }
sum_fits a (negsuc k) h m = record { sfits = either (ltb a (suc k)) (suc k - suc a) (a - suc k) (2 ^ 63) (omega arith) (omega arith) }
  where
    either : (b : Bool) (x y z : ℕ) → x < z → y < z → mag (cond b (negsuc x) (pos y)) < z
    either true x y z h l = h
    either false x y z h l = l

-- a 32-bit number, widened, is a short move
pub wide_short : (n : ℤ) → SFits w32 n → mag (to_z w64 (of_z w64 (to_z w32 (of_z w32 n)))) < 17179869184
wide_short n f = rw (widened n f) (omega (arith, f.sfits))

-- the sum as the machine computes it
module _ (a : ℕ) (n : ℤ) (small : a < 2 ^ 63) (fits : SFits w64 n) where
  summed_is : to_z w64 a +ℤ to_z w64 (of_z w64 n) ≡ pos a +ℤ n
  summed_is = ap₂ ◌+ℤ◌ (to_z_pos w64 small) (to_z-of_z fits)

  pub summed_fits : SFits w64 (pos a +ℤ n) → SFits w64 (to_z w64 a +ℤ to_z w64 (of_z w64 n))
  summed_fits f = subst (SFits w64) (sym summed_is) f

  pub summed_read : SFits w64 (pos a +ℤ n) → to_z w64 (of_z w64 (to_z w64 a +ℤ to_z w64 (of_z w64 n))) ≡ pos a +ℤ n
  summed_read f = to_z-of_z (summed_fits f) ∙ summed_is

-- and for a short move from a number of the calendar
module _ (a : ℕ) (n : ℤ) (h : a ≤ 3652059) (m : mag n < 17179869184) (f : SFits w64 n) where
  pub sum_short : SFits w64 (to_z w64 a +ℤ to_z w64 (of_z w64 n))
  sum_short = summed_fits a n (omega arith) f (sum_fits a n h m)

  pub sum_read : to_z w64 (of_z w64 (to_z w64 a +ℤ to_z w64 (of_z w64 n))) ≡ pos a +ℤ n
  sum_read = summed_read a n (omega arith) f (sum_fits a n h m)
