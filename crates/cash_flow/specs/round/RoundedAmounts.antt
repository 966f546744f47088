-- `round2digits`: an amount rounded to a number of decimals.
use Rattle.std.specs.Prelude.{ℕ, ◌+◌, ◌*◌, ◌/◌, ◌^◌, ◌≡◌, Bool, false, leb, ℤ, pos, negsuc, nat_abs, Float, Result}
use Rattle.std.specs.Float.{nan, inf, fin, binary64}
use Rattle.std.specs.Float.Ieee.{up, down, round, mul, div, of_int}
use Rattle.outcome.specs.Outcome.{Outcome, given, unless, both}
use Rattle.outcome.specs.Refusals.{outcome_of}
use Rattle.outcome.specs.declared.Refusal.{Refusal}
use Rattle.cash_flow.specs.currency.Amounts.{up_to}

-- 0 to 4 digits
abbrev pub is_width : ℤ → Bool
is_width (pos n) = leb n 4
is_width (negsuc n) = false

-- amounts up to 1e9 either way
unfoldable pub is_roundable : Float → ℤ → Bool
is_roundable x digits = both (is_width digits) (up_to 1000000000 x)

-- ten to the power of the digits
unfoldable pub power_of_ten : ℤ → Float
power_of_ten digits = of_int binary64 (pos (10 ^ nat_abs digits))

-- the whole number nearest to n / d, and from exactly half way the larger: n / d + 1 / 2 without
-- its fraction
unfoldable pub nearest_whole : ℕ → ℕ → ℕ
nearest_whole n d = (2 * n + d) / (2 * d)

-- halves away from zero: the size m * up e / down e is rounded, and the sign is kept, by a zero too
unfoldable pub rounded_away : Float → Float
rounded_away nan = nan
rounded_away (inf s) = inf s
rounded_away (fin s m e) = round binary64 s (nearest_whole (m * up e) (down e)) 1

-- the f64 product is rounded, then divided
unfoldable pub rounded_by : Float → Float → Float
rounded_by x power = div binary64 (rounded_away (mul binary64 x power)) power

-- outside its limits an amount, or a number of digits, is refused 15
unfoldable pub round2digits_of : Float → ℤ → Outcome Float
round2digits_of x digits = unless (is_roundable x digits) 15 (given (rounded_by x (power_of_ten digits)))

-- what the entry point promises of the amount x, the digits and its answer r
abbrev pub RoundPromise : Float → ℤ → Result Float Refusal → Type 0
RoundPromise x digits r = outcome_of r ≡ round2digits_of x digits
