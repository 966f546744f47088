-- The limits of a flat rate, and the factor of `Simple` discounting.
use Rattle.std.specs.Prelude.{Bool, pos, Float}
use Rattle.std.specs.Float.{binary64}
use Rattle.std.specs.Float.Ieee.{add, mul, div, le}
use Rattle.outcome.specs.Outcome.{both}
use Rattle.day_fraction.specs.Fractions.{whole}

abbrev one : Float
one = whole (pos 1)

-- the rate is finite, 0 to 1 (nothing else is at least 0 and at most 1)
unfoldable pub is_discount_rate : Float → Bool
is_discount_rate x = both (le (whole (pos 0)) x) (le x one)

-- 1 / (1 + rate x fraction)
unfoldable pub factor_of : Float → Float → Float
factor_of rate yf = div binary64 one (add binary64 one (mul binary64 rate yf))
