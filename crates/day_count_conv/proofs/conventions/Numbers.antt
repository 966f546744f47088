-- A period's number beside 1: the code's test and the definition's.
use Prim.Native.Nat.{ℕ, zero, suc, ◌*◌, ◌≤◌}
use mathlib.Core.Path.{◌≡◌}
use mathlib.Core.Bool.{true}
use native.Mathlib.Nat.{mul-zero}
use native.Mathlib.Omega.{arith}
use lib.IntN.{ℤ, pos}
use lib.Signed.{lt_z, le_z}
use Rattle.outcome.proofs.Numbers.{not-below}
use Rattle.time_period.proofs.steps.Signs.{positive}

pub above_one : (z : ℤ) → le_z (pos 1) z ≡ true → lt_z (pos 0) z ≡ true
above_one z h = positive z (not-below z (pos 1) h)

-- a product of 12 has no factor 0
pub positive_months : (f m : ℕ) → f * m ≡ 12 → 1 ≤ m
positive_months f zero e = absurd (omega (arith, mul-zero f))
positive_months f (suc m) e = omega arith
