-- An f64 as text: four decimals, rounded from the exact value, an exact half to the even digit, in
-- at least 16 columns.
use Rattle.std.specs.Prelude.{ℕ, ◌*◌, List, ◌++◌, nat_abs, Float, Result}
use Rattle.outcome.specs.declared.Refusal.{Refusal}
use Rattle.std.specs.Float.Ieee.Nearest.{closest}
use Rattle.std.specs.Float.Ieee.Scale.{finite}
use Rattle.outcome.specs.Outcome.{Outcome, given, unless}
use Rattle.rounding.specs.Close.{sign_bit, numerator, denominator}
use Rattle.number_text.specs.write.Writing.{sign_text, right_aligned, Writes, Takes}
unfoldable pub use Rattle.decimal.specs.four_decimals.FourDecimals.{four_decimals}

-- the number of ten-thousandths, without the sign: the fraction numerator / denominator times
-- 10000, rounded to the closest
-- whole number, and from exactly half way to the even one
unfoldable pub ten_thousandths : Float → ℕ
ten_thousandths x = closest (nat_abs (numerator x) * 10000) (denominator x)

-- the sign, kept even for a zero, and the four decimals, right-aligned in at least 16 columns
unfoldable pub decimal_text16 : Float → List ℕ
decimal_text16 x = right_aligned 16 (sign_text (sign_bit x) ++ four_decimals (ten_thousandths x))

-- 15: not finite
unfoldable pub decimal_shown : Float → Outcome (List ℕ)
decimal_shown x = unless (finite x) 15 (given (decimal_text16 x))

-- what the entry points promise: the length of a number
abbrev pub DecimalTakes : Float → Result ℕ Refusal → Type 0
DecimalTakes x r = Takes (decimal_shown x) r

-- and its text
abbrev pub DecimalWrites : Float → List ℕ → List ℕ → Result ℕ Refusal → Type 0
DecimalWrites x d e r = Writes (decimal_shown x) d e r
