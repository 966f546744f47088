-- Laws of the digits of a number: how many there are, what they are worth, and how they fall into
-- parts.
use Prim.Native.Nat.{ℕ, zero, suc, ◌+◌, ◌-◌, ◌*◌, ◌/◌, ◌%◌, ◌^◌, ◌≤◌, ◌<◌, max}
use mathlib.Core.Path.{◌≡◌, refl, sym, ap, ◌∙◌}
use mathlib.Core.Bool.{true}
use mathlib.Core.List.{List, [], ◌∷◌, ◌++◌}
use mathlib.Core.Logic.{⊎_elim}
use native.Mathlib.Nat.{pow-suc, mod-eq_of_lt, div-eq_of_lt}
use native.Mathlib.Numerals.{add-one}
use native.Mathlib.Omega.{arith}
use lib.ListN.{length, replicate, replicate-append-replicate}
use borrow.Author.Tests.{lt-ltb, le-ltb}
use Rattle.outcome.specs.Lists.{all_of}
use Rattle.outcome.proofs.Numbers.{lt_or_le}
use Rattle.outcome.proofs.Outcomes.{both_true}
use Rattle.number_text.specs.read.Reading.{is_digit, all_digits, is_decimal, continued, decimal_value}
use Rattle.number_text.specs.length.NumberTexts.{digits, places_within, places, decimal_text, padded_text}
use Rattle.number_text.proofs.read.Decimals.{digit_yes, digit_bounds}
use Rattle.number_text.proofs.length.Numerals.{numeral, worth, AreDigits, length_numeral, numeral_are, numeral_split, numeral_first, worth_numeral}

-- ---- induction: what holds below ten, and of n where it holds of n / 10, holds of every number

tens : (P : ℕ → Type 0) → ((n : ℕ) → n < 10 → P n) → ((n : ℕ) → 10 ≤ n → P (n / 10) → P n) → (steps n : ℕ) → n ≤ steps → P n
tens P few more zero n h = few n (omega arith)
tens P few more (suc steps) n h = ⊎_elim (λ l. few n l) (λ l. more n l (tens P few more steps (n / 10) (omega arith))) (lt_or_le n 10)

pub by_tens : (P : ℕ → Type 0) → ((n : ℕ) → n < 10 → P n) → ((n : ℕ) → 10 ≤ n → P (n / 10) → P n) → (n : ℕ) → P n
by_tens P few more n = tens P few more n n (omega arith)

-- ---- digits are numerals to the base ten, from the byte '0' on

pub digits_numeral : (k n : ℕ) → digits k n ≡ numeral 10 48 k n
unfolding digits numeral
digits_numeral zero n = refl
digits_numeral (suc k) n = rw (digits_numeral k (n / 10))

pub continued_worth : (v : ℕ) (s : List ℕ) → continued v s ≡ worth 10 48 v s
unfolding continued worth
continued_worth v [] = refl
continued_worth v (b ∷ s) = continued_worth (v * 10 + (b - 48)) s

are_all : (s : List ℕ) → AreDigits 10 48 s → all_digits s ≡ true
unfolding all_of
are_all [] h = refl
are_all (b ∷ s) h = rw (digit_yes b h.0.0 (omega arith), are_all s h.1)

pub all_are : (s : List ℕ) → all_digits s ≡ true → AreDigits 10 48 s
unfolding all_of
all_are [] e = omega arith
all_are (b ∷ s) e =
    let q = both_true (is_digit b) (all_digits s) e in
    let r = digit_bounds b q.0 in
    ((r.0, omega arith), all_are s q.1)

-- ---- how many digits a number needs

within_few : (steps n : ℕ) → n < 10 → places_within steps n ≡ 1
unfolding places_within
within_few zero n h = refl
within_few (suc steps) n h = rw (lt-ltb n 10 h)

within_more : (steps n : ℕ) → 10 ≤ n → places_within (suc steps) n ≡ suc (places_within steps (n / 10))
unfolding places_within
within_more steps n h = rw (le-ltb n 10 h)

-- more steps than n change nothing
within_same : (a b n : ℕ) → n ≤ a → n ≤ b → places_within a n ≡ places_within b n
within_same zero b n h k = within_few zero n (omega arith) ∙ sym (within_few b n (omega arith))
within_same (suc a) zero n h k = within_few (suc a) n (omega arith) ∙ sym (within_few zero n (omega arith))
within_same (suc a) (suc b) n h k =
    ⊎_elim (λ l. within_few (suc a) n l ∙ sym (within_few (suc b) n l))
    (λ l. within_more a n l ∙ ap suc (within_same a b (n / 10) (omega arith) (omega arith)) ∙ sym (within_more b n l))
    (lt_or_le n 10)

pub places_few : (n : ℕ) → n < 10 → places n ≡ 1
unfolding places
places_few n h = within_few n n h

places-step : (m n : ℕ) → m ≡ suc n → 10 ≤ m → places m ≡ suc (places (m / 10))
unfolding places
places-step m n e h = ap (λ (k : ℕ). places_within k m) e ∙ within_more n m h ∙ ap suc (within_same n (m / 10) (m / 10) (omega arith) (omega arith))

pub places-more : (n : ℕ) → 10 ≤ n → places n ≡ suc (places (n / 10))
places-more n h = places-step n (n - 1) (omega arith) h

pub places-some : (n : ℕ) → 1 ≤ places n
places-some n = ⊎_elim (λ l. omega (arith, places_few n l)) (λ l. omega (arith, places-more n l)) (lt_or_le n 10)

-- they are enough
pub places_enough : (n : ℕ) → n < 10 ^ places n
places_enough =
    by_tens (λ n. n < 10 ^ places n) (λ n h. rw (places_few n h) h)
    (λ n h e. rw (places-more n h, pow-suc 10 (places (n / 10))) (omega arith))

-- and no more than any other number of digits that is enough
pub places_least : (k n : ℕ) → 1 ≤ k → n < 10 ^ k → places n ≤ k
places_least zero n h l = absurd (omega arith)
places_least (suc k) n h l =
    ⊎_elim (λ p. omega (arith, places_few n p))
    (λ p. omega (arith, places-more n p, places_least k (n / 10) (some k p l) (omega (arith, pow-suc 10 k))))
    (lt_or_le n 10)
  where
    some : (j : ℕ) → 10 ≤ n → n < 10 ^ suc j → 1 ≤ j
    some zero p q = absurd (omega arith)
    some (suc j) p q = omega arith

-- ---- how long their text is

pub length_digits : (k n : ℕ) → length (digits k n) ≡ k
length_digits k n = rw (digits_numeral k n) (length_numeral 10 48 k n)

pub length_decimal : (n : ℕ) → length (decimal_text n) ≡ places n
unfolding decimal_text
length_decimal n = length_digits (places n) n

-- no longer than any number of digits that is enough
pub decimal_within : (k n : ℕ) → 1 ≤ k → n < 10 ^ k → length (decimal_text n) ≤ k
decimal_within k n h l = omega (arith, length_decimal n, places_least k n h l)

pub length_padded : (width n : ℕ) → length (padded_text width n) ≡ max width (places n)
unfolding padded_text
length_padded width n = length_digits (max width (places n)) n

-- ---- what they are worth

pub digits_all : (k n : ℕ) → all_digits (digits k n) ≡ true
digits_all k n = rw (digits_numeral k n) (are_all (numeral 10 48 k n) (numeral_are 10 48 (omega arith) k n))

decimal_some : (s : List ℕ) → 1 ≤ length s → all_digits s ≡ true → is_decimal s ≡ true
unfolding is_decimal
decimal_some [] h e = absurd (omega arith)
decimal_some (b ∷ s) h e = e

pub digits_decimal : (k n : ℕ) → 1 ≤ k → is_decimal (digits k n) ≡ true
digits_decimal k n h = decimal_some (digits k n) (omega (arith, length_digits k n)) (digits_all k n)

pub value-digits : (k n : ℕ) → decimal_value (digits k n) ≡ n % 10 ^ k
value-digits k n = rw (digits_numeral k n, continued_worth 0 (numeral 10 48 k n)) (worth_numeral 10 48 (omega arith) k n)

-- all of n, where k digits are enough
pub value-whole : (k n : ℕ) → n < 10 ^ k → decimal_value (digits k n) ≡ n
value-whole k n h = value-digits k n ∙ mod-eq_of_lt h

-- ---- how they fall into parts

-- the last one apart
pub digits_last : (k n : ℕ) → digits (suc k) n ≡ digits k (n / 10) ++ ((48 + n % 10) ∷ [])
unfolding digits
digits_last k n = refl

pub digits-split : (a b n : ℕ) → digits (a + b) n ≡ digits a (n / 10 ^ b) ++ digits b n
digits-split a b n = simp digits_numeral (numeral_split 10 48 a b n)

-- the first one apart
pub digits-first : (k n : ℕ) → digits (suc k) n ≡ (48 + n / 10 ^ k % 10) ∷ digits k n
digits-first k n = simp digits_numeral (numeral_first 10 48 k n)

pub replicate_more : (k b : ℕ) → replicate k b ++ (b ∷ []) ≡ replicate (suc k) b
replicate_more k b = replicate-append-replicate k 1 b ∙ rw (add-one)

pub digits-zero : (k : ℕ) → digits k 0 ≡ replicate k 48
unfolding digits
digits-zero zero = refl
digits-zero (suc k) = rw (digits-zero k) (replicate_more k 48)

-- digits past those that are enough are leading zeros
pub digits_leading : (j k n : ℕ) → n < 10 ^ k → digits (j + k) n ≡ replicate j 48 ++ digits k n
digits_leading j k n h = digits-split j k n ∙ rw (div-eq_of_lt h, digits-zero j)
