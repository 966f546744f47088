-- What the inner functions hand each other on the way to the text; no promise of an entry point
-- rests on this.
use Rattle.std.specs.Prelude.{ℕ, ◌+◌, ◌-◌, Bool, List, ◌∷◌, ◌++◌, length, take, drop, replicate}
use Rattle.number_text.specs.write.Writing.{sign_text, right_aligned}
use Rattle.decimal.specs.big_digits.BigDigits.{zeros_leading}
use Rattle.decimal.specs.four_decimals.FourDecimals.{four_decimals}

-- the text of the sign s and n ten-thousandths, in at least 16 columns
abbrev pub signed_decimals : Bool → ℕ → List ℕ
signed_decimals s n = right_aligned 16 (sign_text s ++ four_decimals n)

-- what stands before a number of `size` bytes with the sign s: blanks, and the sign
abbrev pub front_text : Bool → ℕ → List ℕ
front_text s size = replicate (16 - (length (sign_text s) + size)) 32 ++ sign_text s

-- where the whole part begins among the digits d: past its zeros, but before its last digit at the
-- latest
abbrev pub whole_start : List ℕ → ℕ
whole_start d = zeros_leading (take (length d - 5) d)

-- digits from place `start` on, with a point before the last four
abbrev pub pointed : List ℕ → ℕ → List ℕ
pointed d start = take (length d - 4 - start) (drop start d) ++ (46 ∷ drop (length d - 4) d)

-- the digits d of a number of ten-thousandths, as text
abbrev pub array_text : Bool → List ℕ → List ℕ
array_text s d = front_text s (length d + 1 - whole_start d) ++ pointed d (whole_start d)
