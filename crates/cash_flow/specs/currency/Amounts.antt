-- Currencies, the limits of amounts, and what an amount's answer says.
use Rattle.std.specs.Prelude.{ℕ, ◌*◌, ◌≡◌, Bool, false, List, [], ◌∷◌, leb, eqb, Float, Result}
use Rattle.std.specs.Float.{nan, inf, fin}
use Rattle.std.specs.Float.Ieee.{up, down}
use Rattle.outcome.specs.Outcome.{returned, plus_zero, both}
use Rattle.outcome.specs.Refusals.{outcome_of}
use Rattle.outcome.specs.declared.Refusal.{Refusal}
use Rattle.cash_flow.specs.declared.currency.Currency.{Currency}

-- a capital is one of the bytes 'A' to 'Z'
unfoldable pub is_capital : ℕ → Bool
is_capital b = both (leb 65 b) (leb b 90)

-- a currency is three capitals
unfoldable pub is_currency : Currency → Bool
is_currency c = both (is_capital c.first) (both (is_capital c.second) (is_capital c.third))

-- two currencies are the same where their three letters are
unfoldable pub is_same_currency : Currency → Currency → Bool
is_same_currency a b = both (eqb a.first b.first) (both (eqb a.second b.second) (eqb a.third b.third))

-- its text is its three bytes
abbrev pub currency_text : Currency → List ℕ
currency_text c = c.first ∷ c.second ∷ c.third ∷ []

-- finite, and at most k either way: a mantissa m times 2^e, which is up e / down e, multiplied out
abbrev pub up_to : ℕ → Float → Bool
up_to k nan = false
up_to k (inf s) = false
up_to k (fin s m e) = leb (m * up e) (k * down e)

-- what is returned of it; the zero is +0.0
abbrev pub amount_returned : Result Float Refusal → ℕ × Float
amount_returned r = returned plus_zero (outcome_of r)

-- what the entry points promise of their result r
abbrev pub CurrencyPromise : Currency → Bool → Type 0
CurrencyPromise c r = r ≡ is_currency c

abbrev pub SameCurrencyPromise : Currency → Currency → Bool → Type 0
SameCurrencyPromise a b r = r ≡ is_same_currency a b

abbrev pub UpToBillionPromise : Float → Bool → Type 0
UpToBillionPromise x r = r ≡ up_to 1000000000 x
