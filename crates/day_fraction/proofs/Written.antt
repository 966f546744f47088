-- The `f64` operations as the code writes them, with each literal by its pattern, are those of the
-- definitions.
use Prim.Native.Nat.{ℕ}
use mathlib.Core.Path.{◌≡◌, refl, ap₂}
use lib.IntN.{ℤ, pos}
use lib.Ieee.{Float, binary64, add, div, of_int, of_bits}
use Rattle.day_fraction.specs.Fractions.{whole, quotient, thirties_bits}

pub lit0 : of_bits binary64 0 ≡ whole (pos 0)
unfolding of_bits of_int
lit0 = refl

pub lit1 : of_bits binary64 0x3ff0_0000_0000_0000 ≡ whole (pos 1)
unfolding of_bits of_int
lit1 = refl

lit12 : of_bits binary64 0x4028_0000_0000_0000 ≡ whole (pos 12)
unfolding of_bits of_int
lit12 = refl

pub lit360 : of_bits binary64 0x4076_8000_0000_0000 ≡ whole (pos 360)
unfolding of_bits of_int
lit360 = refl

pub lit365 : of_bits binary64 0x4076_d000_0000_0000 ≡ whole (pos 365)
unfolding of_bits of_int
lit365 = refl

pub lit366 : of_bits binary64 0x4076_e000_0000_0000 ≡ whole (pos 366)
unfolding of_bits of_int
lit366 = refl

-- a whole number over a literal
pub over_by : (n : ℕ) {x : Float} {y z : ℤ} → x ≡ whole (pos n) → y ≡ z → div binary64 (whole y) x ≡ quotient z n
over_by n l e = ap₂ (λ (z : ℤ) (x : Float). div binary64 (whole z) x) e l

pub thirties_written : (y m d : ℤ) {Y M D : Float} → Y ≡ whole y → M ≡ whole m → D ≡ whole d
    → add binary64 (add binary64 Y (div binary64 M (of_bits binary64 0x4028_0000_0000_0000))) (div binary64 D (of_bits binary64 0x4076_8000_0000_0000)) ≡ thirties_bits y m d
thirties_written y m d p q r = rw (p, q, r, lit12, lit360)
