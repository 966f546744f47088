-- The text of a number, and what is promised of its length.
use Rattle.std.specs.Prelude.{ℕ, zero, suc, ◌+◌, ◌/◌, ◌%◌, max, ◌≡◌, Bool, true, false, List, [], ◌∷◌, ◌++◌, ltb, length, ℤ, nat_abs}
use Rattle.outcome.specs.Outcome.{pick}
use Rattle.outcome.specs.Signs.{is_negative}

-- the last k decimal digits of n
unfoldable pub digits : ℕ → ℕ → List ℕ
digits zero n = []
digits (suc k) n = digits k (n / 10) ++ ((48 + n % 10) ∷ [])

-- one digit below ten, else one more than n / 10 needs; n steps are always enough
unfoldable pub places_within : ℕ → ℕ → ℕ
places_within zero n = 1
places_within (suc steps) n = let more = suc (places_within steps (n / 10)) in pick (ltb n 10) 1 more

-- how many digits n needs
unfoldable pub places : ℕ → ℕ
places n = places_within n n

-- the shortest decimal of n
unfoldable pub decimal_text : ℕ → List ℕ
decimal_text n = digits (places n) n

-- the decimal of n with as many leading zeros as make it `width` digits long
unfoldable pub padded_text : ℕ → ℕ → List ℕ
padded_text width n = digits (max width (places n)) n

-- '-' for a negative number, and no sign else
abbrev pub sign_text : Bool → List ℕ
sign_text true = 45 ∷ []
sign_text false = []

-- a signed number: the sign, and the shortest decimal
unfoldable pub signed_text : ℤ → List ℕ
signed_text z = sign_text (is_negative z) ++ decimal_text (nat_abs z)

-- what is promised of the length r of a number's text: the shortest
abbrev pub TakesDecimal : ℕ → ℕ → Type 0
TakesDecimal n r = r ≡ length (decimal_text n)

-- with leading zeros
abbrev pub TakesPadded : ℕ → ℕ → ℕ → Type 0
TakesPadded width n r = r ≡ length (padded_text width n)

-- with its sign
abbrev pub TakesSigned : ℤ → ℕ → Type 0
TakesSigned z r = r ≡ length (signed_text z)
