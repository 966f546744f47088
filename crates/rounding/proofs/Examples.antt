-- The definitions at numbers, by computing alone: `Close` holds of neither everything nor nothing,
-- and operations round as IEEE 754 says.
use mathlib.Core.Path.{◌≡◌, refl}
use Prim.Native.Nat.{ℕ, ◌+◌, ◌^◌}
use native.Mathlib.Nat.{not-le_of_lt}
use mathlib.Core.Bool.{Bool, false}
use lib.IntN.{ℤ, pos, negsuc}
use lib.Dec.{lit<, lit≤}
use lib.Ieee.{Float, nan, inf, binary64, add, mul, div, of_int, of_bits, eq}
use Rattle.rounding.specs.Close.{numerator, denominator, Close}

abbrev pub whole : ℤ → Float
whole z = of_int binary64 z

-- the quotient of two whole numbers, and so the `f64` nearest to the fraction
abbrev pub over : ℤ → ℕ → Float
over z q = div binary64 (whole z) (whole (pos q))

-- ---- what `Close` says
-- the `f64` of 1 / 3 is off by 1 / (3 * 2 ^ 54): within 1 / 2 ^ 55, and not within 1 / 2 ^ 56
third_close : Close (2 ^ 55) (over (pos 1) 3) (pos 1) 3
unfolding div of_int
third_close = (tt, lit≤ tt)

third_not_closer : Close (2 ^ 56) (over (pos 1) 3) (pos 1) 3 → ⊥
unfolding div of_int
third_not_closer c = not-le_of_lt (lit< tt) c.1

-- it means 6004799503160661 / 2 ^ 54
third_means : (numerator (over (pos 1) 3) ≡ pos 6004799503160661) × (denominator (over (pos 1) 3) ≡ 2 ^ 54)
unfolding div of_int
third_means = (refl, refl)

-- the sign counts: -1 / 3 is not within 1 / 2 of 1 / 3
minus_third_close : Close (2 ^ 55) (over (negsuc 0) 3) (negsuc 0) 3
unfolding div of_int
minus_third_close = (tt, lit≤ tt)

minus_third_not_third : Close 2 (over (negsuc 0) 3) (pos 1) 3 → ⊥
unfolding div of_int
minus_third_not_third c = not-le_of_lt (lit< tt) c.1

-- the bound itself is in: 1 is within 1 / 2 of 3 / 2, and not within 1 / 3
one_at_bound : Close 2 (whole (pos 1)) (pos 3) 2
unfolding of_int
one_at_bound = (tt, lit≤ tt)

one_past_bound : Close 3 (whole (pos 1)) (pos 3) 2 → ⊥
unfolding of_int
one_past_bound c = not-le_of_lt (lit< tt) c.1

-- a NaN and an infinity are close to nothing
nan_not_close : (w : ℕ) (n : ℤ) (d : ℕ) → Close w nan n d → ⊥
nan_not_close w n d c = c.0

inf_not_close : (s : Bool) (w : ℕ) (n : ℤ) (d : ℕ) → Close w (inf s) n d → ⊥
inf_not_close s w n d c = c.0

-- ---- how operations round
-- halfway between two values the even one is taken, below and above
tie_down : numerator (whole (pos (2 ^ 53 + 1))) ≡ pos (2 ^ 53)
unfolding of_int
tie_down = refl

tie_up : numerator (whole (pos (2 ^ 53 + 3))) ≡ pos (2 ^ 53 + 4)
unfolding of_int
tie_up = refl

-- below the normal range: half of the smallest value is 0, and three halves of it are two of it
half_of_smallest : div binary64 (of_bits binary64 1) (whole (pos 2)) ≡ of_bits binary64 0
unfolding div of_int of_bits
half_of_smallest = refl

three_halves_of_smallest : div binary64 (of_bits binary64 3) (whole (pos 2)) ≡ of_bits binary64 2
unfolding div of_int of_bits
three_halves_of_smallest = refl

half_of_smallest_close : Close (2 ^ 1075) (div binary64 (of_bits binary64 1) (whole (pos 2))) (pos 1) (2 ^ 1075)
unfolding div of_int of_bits
half_of_smallest_close = (tt, lit≤ tt)

-- past the largest value there is an infinity
overflow : mul binary64 (of_bits binary64 0x7fef_ffff_ffff_ffff) (whole (pos 2)) ≡ inf false
unfolding mul of_int of_bits
overflow = refl

-- 1/10 + 2/10 is not the `f64` of 3/10, and is within 1 / 2 ^ 54 of 3/10
tenths_differ : eq (add binary64 (over (pos 1) 10) (over (pos 2) 10)) (over (pos 3) 10) ≡ false
unfolding add div of_int eq
tenths_differ = refl

tenths_close : Close (2 ^ 54) (add binary64 (over (pos 1) 10) (over (pos 2) 10)) (pos 3) 10
unfolding add div of_int
tenths_close = (tt, lit≤ tt)
