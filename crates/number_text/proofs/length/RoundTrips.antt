-- What is written can be read: the text of a number, read back, is that number.
use Prim.Native.Nat.{ℕ, suc, ◌≤◌, ◌<◌, ◌^◌, max}
use mathlib.Core.Path.{◌≡◌}
use mathlib.Core.Bool.{true, false, false≢true}
use mathlib.Core.List.{List, [], ◌∷◌}
use native.Mathlib.Nat.{lt_of_lt_of_le, pow-le-pow_right}
use native.Mathlib.Omega.{arith}
use lib.IntN.{ℤ, pos, negsuc}
use mir.Syntax.{w32}
use mir.Val.{SFits}
use borrow.Author.Tests.{le-leb, ne_eqb}
use Rattle.outcome.specs.Lists.{all_of}
use Rattle.outcome.specs.Outcome.{given}
use Rattle.outcome.proofs.Outcomes.{both_true}
use Rattle.number_text.specs.read.Reading.{is_digit, all_digits, is_decimal, decimal_number, begins, after_plus, unsigned_number, below_zero, from_zero, signed_number}
use Rattle.number_text.specs.length.NumberTexts.{digits, places, decimal_text, padded_text, signed_text}
use Rattle.number_text.proofs.read.Decimals.{digit_bounds}
use Rattle.number_text.proofs.length.Digits.{digits_decimal, value-whole, places-some, places_enough}

-- a decimal has no sign before it
begins_digit : (c : ℕ) (s : List ℕ) → c < 48 → is_decimal s ≡ true → begins c s ≡ false
unfolding is_decimal all_of begins
begins_digit c [] h e = absurd (false≢true e)
begins_digit c (b ∷ s) h e = ne_eqb b c (λ q. omega (arith, digit_bounds b (both_true (is_digit b) (all_digits s) e).0))

no_plus_before : (s : List ℕ) → is_decimal s ≡ true → after_plus s ≡ s
unfolding after_plus
no_plus_before s e = rw (begins_digit 43 s (omega arith) e)

-- ---- any number of digits that is enough

pub read_digits : (most n k m : ℕ) → 1 ≤ k → m < 10 ^ k → m ≤ most → decimal_number most n (digits k m) ≡ given m
unfolding decimal_number
read_digits most n k m h l p = rw (digits_decimal k m h, value-whole k m l, le-leb m most p)

pub unsigned_digits : (n k m : ℕ) → 1 ≤ k → m < 10 ^ k → m < 4294967296 → unsigned_number n (digits k m) ≡ given m
unfolding unsigned_number
unsigned_digits n k m h l p = rw (no_plus_before (digits k m) (digits_decimal k m h)) (read_digits 4294967295 n k m h l (omega arith))

-- ---- the texts that are written

pub unsigned_back : (n m : ℕ) → m < 4294967296 → unsigned_number n (decimal_text m) ≡ given m
unfolding decimal_text
unsigned_back n m h = unsigned_digits n (places m) m (places-some m) (places_enough m) h

pub padded_back : (n width m : ℕ) → m < 4294967296 → unsigned_number n (padded_text width m) ≡ given m
unfolding padded_text
padded_back n width m h =
    unsigned_digits n (max width (places m)) m (omega (arith, places-some m))
    (lt_of_lt_of_le (places_enough m) (pow-le-pow_right (omega arith) (omega arith))) h

from_back : (n m : ℕ) → m ≤ 2147483647 → signed_number n (decimal_text m) ≡ given (pos m)
unfolding signed_number from_zero decimal_text
from_back n m h =
    let d = digits_decimal (places m) m (places-some m) in
    rw (begins_digit 45 (digits (places m) m) (omega arith) d, no_plus_before (digits (places m) m) d, read_digits 2147483647 n (places m) m (places-some m) (places_enough m) h)

below_back : (n m : ℕ) → m < 2147483648 → signed_number n (45 ∷ decimal_text (suc m)) ≡ given (negsuc m)
unfolding signed_number below_zero decimal_text begins
below_back n m h = rw (read_digits 2147483648 n (places (suc m)) (suc m) (places-some (suc m)) (places_enough (suc m)) (omega arith))

pub signed_back : (n : ℕ) (z : ℤ) → SFits w32 z → signed_number n (signed_text z) ≡ given z
unfolding signed_text
signed_back n (pos m) f = from_back n m (omega (arith, f.sfits))
signed_back n (negsuc m) f = below_back n m (omega (arith, f.sfits))
