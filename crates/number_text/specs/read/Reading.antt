-- Numbers as text: which bytes are a number, and which number they are. A refusal's number n is the
-- caller's: 4 in a
-- period, 6 in a coupon date.
use Rattle.std.specs.Prelude.{ℕ, ◌+◌, ◌-◌, ◌*◌, ◌≡◌, Bool, false, List, [], ◌∷◌, leb, eqb, drop, ℤ, pos, neg_ℤ, Result, Ok, Err}
use Rattle.outcome.specs.Lists.{all_of}
use Rattle.outcome.specs.Outcome.{Outcome, given, refused, unless, and_then, pick, both}
use Rattle.outcome.specs.Refusals.{outcome_of}
use Rattle.outcome.specs.declared.Refusal.{Refusal}

-- a digit is one of the bytes '0' to '9'
unfoldable pub is_digit : ℕ → Bool
is_digit b = both (leb 48 b) (leb b 57)

-- every byte is a digit
abbrev pub all_digits : List ℕ → Bool
all_digits s = all_of is_digit s

-- a decimal is one digit or more
unfoldable pub is_decimal : List ℕ → Bool
is_decimal [] = false
is_decimal (b ∷ s) = all_digits (b ∷ s)

-- digits behind a number: each makes it ten times as much, and adds itself
unfoldable pub continued : ℕ → List ℕ → ℕ
continued v [] = v
continued v (b ∷ s) = continued (v * 10 + (b - 48)) s

-- what a decimal is worth
abbrev pub decimal_value : List ℕ → ℕ
decimal_value s = continued 0 s

-- a decimal of at most `most`; anything else is refused n
unfoldable pub decimal_number : ℕ → ℕ → List ℕ → Outcome ℕ
decimal_number most n s =
    unless (is_decimal s) n
    (unless (leb (decimal_value s) most) n
    (given (decimal_value s)))

-- s begins with the byte b
unfoldable pub begins : ℕ → List ℕ → Bool
begins b [] = false
begins b (c ∷ s) = eqb c b

-- s without the one '+' that may stand before it
unfoldable pub after_plus : List ℕ → List ℕ
after_plus s = pick (begins 43 s) (drop 1 s) s

-- an unsigned 32-bit decimal, '+' allowed: up to 4,294,967,295
unfoldable pub unsigned_number : ℕ → List ℕ → Outcome ℕ
unsigned_number n s = decimal_number 4294967295 n (after_plus s)

-- behind '-' a decimal says how far below zero: down to -2,147,483,648
unfoldable pub below_zero : ℕ → List ℕ → Outcome ℤ
below_zero n s = and_then (decimal_number 2147483648 n s) (λ v. given (neg_ℤ (pos v)))

-- a decimal from zero up to 2,147,483,647
unfoldable pub from_zero : ℕ → List ℕ → Outcome ℤ
from_zero n s = and_then (decimal_number 2147483647 n s) (λ v. given (pos v))

-- a signed 32-bit decimal, '-' and '+' allowed
unfoldable pub signed_number : ℕ → List ℕ → Outcome ℤ
signed_number n s = pick (begins 45 s) (below_zero n (drop 1 s)) (from_zero n (after_plus s))

-- the outcome of a result whose refusals are numbered by f
abbrev pub outcome_by : {A E : Type 0} → (E → ℕ) → Result A E → Outcome A
outcome_by f (Ok a) = given a
outcome_by f (Err e) = refused (f e)

-- what the readers promise of the refusal e that their caller names, the bytes s and their answer
-- r, however refusals are numbered: a decimal
abbrev pub TellsDecimal : {E : Type 0} → ℕ → E → List ℕ → Result ℕ E → Type 0
TellsDecimal {E} most e s r = (f : E → ℕ) → outcome_by f r ≡ decimal_number most (f e) s

-- an unsigned number
abbrev pub TellsUnsigned : {E : Type 0} → E → List ℕ → Result ℕ E → Type 0
TellsUnsigned {E} e s r = (f : E → ℕ) → outcome_by f r ≡ unsigned_number (f e) s

-- a signed number
abbrev pub TellsSigned : {E : Type 0} → E → List ℕ → Result ℤ E → Type 0
TellsSigned {E} e s r = (f : E → ℕ) → outcome_by f r ≡ signed_number (f e) s

-- and so with the numbers of documents 01 and 02: a decimal
abbrev pub ReadsDecimal : ℕ → ℕ → List ℕ → Result ℕ Refusal → Type 0
ReadsDecimal most n s r = outcome_of r ≡ decimal_number most n s

-- an unsigned number
abbrev pub ReadsUnsigned : ℕ → List ℕ → Result ℕ Refusal → Type 0
ReadsUnsigned n s r = outcome_of r ≡ unsigned_number n s

-- a signed number
abbrev pub ReadsSigned : ℕ → List ℕ → Result ℤ Refusal → Type 0
ReadsSigned n s r = outcome_of r ≡ signed_number n s
