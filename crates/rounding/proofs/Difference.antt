-- The difference of two small unsigned numbers as `i32`s: `a as i32 - b as i32` is a - b.
use mathlib.Core.Path.{◌≡◌, sym, ap₂, ◌∙◌, subst₂}
use Prim.Native.Nat.{ℕ, ◌+◌, ◌^◌, ◌≤◌, ◌<◌}
use native.Mathlib.Nat.{le-suc, le_refl}
use native.Mathlib.Omega.{arith}
use lib.IntN.{ℤ, pos, negsuc, nat_abs, ◌-ℤ◌}
use lib.Signed.{mag}
use mir.Syntax.{w32}
use mir.Val.{SFits, to_z, of_z}
use mir.Facts.{to_z_pos, to_z-of_z}
use Rattle.rounding.proofs.Integers.{of_int_lem, diff_sub, abs_apart}

-- its size, from bounds of the two
pub abs_gap : (a b w : ℕ) → a ≤ b + w → b ≤ a + w → nat_abs (pos a -ℤ pos b) ≤ w
abs_gap a b w h k = omega (arith, (abs_apart (pos a -ℤ pos b) (a + 0) (0 + b) 1 w (diff_sub (of_int_lem (pos a)) (of_int_lem (pos b)))).1 (omega arith))

-- the subtraction does not overflow
pub gap_fits : (a b : ℕ) → a < 2 ^ 31 → b < 2 ^ 31 → SFits w32 (to_z w32 a -ℤ to_z w32 b)
gap_fits a b h k =
    subst₂ (λ (x y : ℤ). SFits w32 (x -ℤ y)) (sym (to_z_pos w32 h)) (sym (to_z_pos w32 k))
    (record { sfits = omega (arith, mag-le (pos a -ℤ pos b), abs_gap a b 2147483647 (omega arith) (omega arith)) })
  where
    mag-le : (z : ℤ) → mag z ≤ nat_abs z
    mag-le (pos n) = le_refl n
    mag-le (negsuc n) = le-suc n

-- and its result is the difference
pub gap_is : (a b : ℕ) → a < 2 ^ 31 → b < 2 ^ 31 → to_z w32 (of_z w32 (to_z w32 a -ℤ to_z w32 b)) ≡ pos a -ℤ pos b
gap_is a b h k = to_z-of_z (gap_fits a b h k) ∙ ap₂ (λ (x y : ℤ). x -ℤ y) (to_z_pos w32 h) (to_z_pos w32 k)
