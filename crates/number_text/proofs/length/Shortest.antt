-- The text of a number is the shortest decimal of that value, and the only one so short.
use Prim.Native.Nat.{ℕ, ◌^◌, ◌≤◌, ◌<◌, max}
use mathlib.Core.Path.{◌≡◌, refl, ◌∙◌}
use mathlib.Core.Bool.{true, false≢true}
use mathlib.Core.List.{List, [], ◌∷◌}
use native.Mathlib.Omega.{arith}
use lib.ListN.{length}
use Rattle.outcome.specs.Lists.{all_of}
use Rattle.number_text.specs.read.Reading.{all_digits, is_decimal, decimal_value}
use Rattle.number_text.specs.length.NumberTexts.{digits, places, decimal_text, padded_text}
use Rattle.number_text.proofs.length.Numerals.{worth, worth_below, numeral_worth}
use Rattle.number_text.proofs.length.Digits.{digits_numeral, continued_worth, all_are, length_decimal, places_least, places-some, digits_decimal, value-whole, places_enough}

-- ---- a decimal and its value

pub value-below : (s : List ℕ) → all_digits s ≡ true → decimal_value s < 10 ^ length s
value-below s e = rw (continued_worth 0 s) (worth_below 10 48 s (all_are s e))

pub digits-only : (s : List ℕ) → all_digits s ≡ true → s ≡ digits (length s) (decimal_value s)
digits-only s e = rw (continued_worth 0 s, digits_numeral (length s) (worth 10 48 0 s), numeral_worth 10 48 0 s (all_are s e))

all_of_lem : (s : List ℕ) → is_decimal s ≡ true → all_digits s ≡ true
unfolding is_decimal all_of
all_of_lem [] e = refl
all_of_lem (b ∷ s) e = e

some_of : (s : List ℕ) → is_decimal s ≡ true → 1 ≤ length s
unfolding is_decimal
some_of [] e = absurd (false≢true e)
some_of (b ∷ s) e = omega arith

-- ---- the shortest decimal

pub decimal_right : (n : ℕ) → (is_decimal (decimal_text n) ≡ true) × (decimal_value (decimal_text n) ≡ n)
unfolding decimal_text
decimal_right n = (digits_decimal (places n) n (places-some n), value-whole (places n) n (places_enough n))

pub decimal_shortest : (n : ℕ) (s : List ℕ) → is_decimal s ≡ true → decimal_value s ≡ n → length (decimal_text n) ≤ length s
decimal_shortest n s e v = omega (arith, length_decimal n, places_least (length s) n (some_of s e) (rw (← v) (value-below s (all_of_lem s e))))

pub decimal_only : (n : ℕ) (s : List ℕ) → is_decimal s ≡ true → decimal_value s ≡ n → length s ≡ length (decimal_text n) → s ≡ decimal_text n
unfolding decimal_text
decimal_only n s e v l = digits-only s (all_of_lem s e) ∙ rw (v, l ∙ length_decimal n)

-- with leading zeros: the only decimal of that value and length
pub padded_only : (width n : ℕ) (s : List ℕ) → is_decimal s ≡ true → decimal_value s ≡ n → length s ≡ max width (length (decimal_text n)) → s ≡ padded_text width n
unfolding padded_text
padded_only width n s e v l = digits-only s (all_of_lem s e) ∙ rw (v, l, length_decimal n)
