-- Exact values, as fractions of whole numbers, and how close an `f64` is to one.
use Rattle.std.specs.Prelude.{ℕ, zero, suc, ◌^◌, Bool, true, false, ℤ, pos, negsuc, ◌-ℤ◌, Float}
use Rattle.rounding.specs.Close.{Close}

-- a signed whole number over a positive one
pub record Exact : Type 0 where
  pub num : ℤ
  pub den : ℕ

-- the f64 is finite and within 1 / 2^38 of the exact value
abbrev pub CloseTo : Float → Exact → Type 0
CloseTo x q = Close (2 ^ 38) x q.num q.den

-- a - b, with its sign
abbrev pub difference : ℕ → ℕ → ℤ
difference a b = pos a -ℤ pos b

-- the exact value is 0 where its numerator is
abbrev pub is_zero : ℤ → Bool
is_zero (pos zero) = true
is_zero (pos (suc n)) = false
is_zero (negsuc n) = false
