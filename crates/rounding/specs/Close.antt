-- What a promise says of an `f64` beside an exact fraction of whole numbers.
use Rattle.std.specs.Prelude.{ℕ, ◌*◌, ◌≤◌, Bool, true, false, ℤ, pos, neg_ℤ, nat_abs, ◌-ℤ◌, ◌*ℤ◌, T, Float}
use Rattle.std.specs.Float.{nan, inf, fin}
use Rattle.std.specs.Float.Ieee.{up, down}
use Rattle.std.specs.Float.Ieee.Scale.{finite}

-- the sign bit, which a zero has too
abbrev pub sign_bit : Float → Bool
sign_bit nan = false
sign_bit (inf s) = s
sign_bit (fin s m e) = s

-- m with its sign: negative where the first is true
abbrev pub signed : Bool → ℕ → ℤ
signed false m = pos m
signed true m = neg_ℤ (pos m)

-- a finite `f64` means its signed whole mantissa times a power of two, which is up e / down e: the
-- fraction numerator / denominator
abbrev pub numerator : Float → ℤ
numerator nan = pos 0
numerator (inf s) = pos 0
numerator (fin s m e) = signed s (m * up e)

abbrev pub denominator : Float → ℕ
denominator nan = 1
denominator (inf s) = 1
denominator (fin s m e) = down e

-- the fractions a / b and n / d, with b and d above 0, are within 1 / w of each other, multiplied
-- out by w * b * d
abbrev pub Within : ℕ → ℤ → ℕ → ℤ → ℕ → Type 0
Within w a b n d = nat_abs (a *ℤ pos d -ℤ n *ℤ pos b) * w ≤ b * d

-- the `f64` x is finite, no NaN and no infinity, and within 1 / w of the fraction n / d
abbrev pub Close : ℕ → Float → ℤ → ℕ → Type 0
Close w x n d = T (finite x) × Within w (numerator x) (denominator x) n d
