-- A signed difference of two naturals is found where it is not negative, and is 0 exactly where the
-- two are equal.
use mathlib.Core.Path.{◌≡◌, refl, ◌∙◌, ap}
use Prim.Native.Nat.{ℕ, zero, suc, ◌+◌, ◌-◌, ◌≤◌}
use mathlib.Core.Bool.{false}
use native.Mathlib.Omega.{arith}
use lib.IntN.{ℤ, pos, negsuc}
use Rattle.rounding.proofs.Integers.{plus, minus, Diff, of_int_lem, diff_sub}
use Rattle.day_fraction.specs.Exact.{difference, is_zero}

pub diff_of : (a b : ℕ) → Diff (difference a b) a b
diff_of a b = record { is = omega (arith, (diff_sub (of_int_lem (pos a)) (of_int_lem (pos b))).is) }

-- p - n, where n is at most p
pub diff_pos : {z : ℤ} {p n : ℕ} → Diff z p n → n ≤ p → z ≡ pos (p - n)
diff_pos {z} {p} {n} h l = go z h.is
  where
    go : (z : ℤ) → p + minus z ≡ n + plus z → z ≡ pos (p - n)
    go (pos a) e = ap pos (omega arith)
    go (negsuc a) e = absurd (omega arith)

-- and 0 where the two are equal
pub diff_zero : {z : ℤ} {p n : ℕ} → Diff z p n → p ≡ n → z ≡ pos 0
diff_zero {z} {p} {n} h e = diff_pos h (omega arith) ∙ ap pos (omega arith)

-- p - n is not 0 where the two differ
pub zero-not : {z : ℤ} {p n : ℕ} → Diff z p n → (p ≡ n → ⊥) → is_zero z ≡ false
zero-not {z} {p} {n} h k = go z h.is
  where
    go : (z : ℤ) → p + minus z ≡ n + plus z → is_zero z ≡ false
    go (pos zero) e = absurd (k (omega arith))
    go (pos (suc a)) e = refl
    go (negsuc a) e = refl
