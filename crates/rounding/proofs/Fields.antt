-- An f64 by its exponent's field and its mantissa's: its value, or that it is not finite.
use Prim.Native.Nat.{ℕ, zero, suc, ◌+◌, ◌*◌, ◌^◌, ◌<◌}
use mathlib.Core.Path.{◌≡◌, refl, ap}
use mathlib.Core.Bool.{Bool, true, false, cond}
use native.Mathlib.Omega.{arith}
use lib.Dec.{eqb}
use lib.IntN.{ℤ}
use lib.Ieee.{Float, nan, inf, fin, binary64, of_fields}
use lib.Ieee.Exact.{HasValue, odd_sign}
use lib.Ieee.Scale.{finite}
use borrow.Author.Tests.{ne_eqb}

pub few_value : (s : Bool) (m : ℕ) → HasValue (of_fields binary64 s 0 m) s (m * 2 ^ 0) (2 ^ 1074)
unfolding of_fields
few_value s m = odd_sign 53 s m 0 1074

pub some-value : (s : Bool) (k m : ℕ) → suc k < 2047 → HasValue (of_fields binary64 s (suc k) m) s ((4503599627370496 + m) * 2 ^ k) (2 ^ 1074)
unfolding of_fields
some-value s k m h = rw (ne_eqb (suc k) 2047 (λ e. omega arith)) (odd_sign 53 s (4503599627370496 + m) k 1074)

pub not_finite : (s : Bool) (m : ℕ) → finite (of_fields binary64 s 2047 m) ≡ false
unfolding of_fields
not_finite s m = by (eqb m 0)
  where
    by : (b : Bool) → finite (cond b (inf s) nan) ≡ false
    by true = refl
    by false = refl

-- with its sign
valued : (x : Float) (s : Bool) (a c : ℕ) → HasValue x s a c → (n : ℕ) × (e : ℤ) × (x ≡ fin s n e)
valued nan s a c h = absurd h
valued (inf t) s a c h = absurd h
valued (fin t n e) s a c h = (n, e, ap (λ (b : Bool). fin b n e) h.0)

pub is_finite : (s : Bool) (k m : ℕ) → k < 2047 → (n : ℕ) × (e : ℤ) × (of_fields binary64 s k m ≡ fin s n e)
is_finite s zero m h = valued (of_fields binary64 s 0 m) s (m * 2 ^ 0) (2 ^ 1074) (few_value s m)
is_finite s (suc k) m h = valued (of_fields binary64 s (suc k) m) s ((4503599627370496 + m) * 2 ^ k) (2 ^ 1074) (some-value s k m h)
