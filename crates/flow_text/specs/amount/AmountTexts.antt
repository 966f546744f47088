-- Amounts as text, and what is refused.
use Rattle.std.specs.Prelude.{ℕ, List, ◌∷◌, ◌++◌, Float, Result}
use Rattle.outcome.specs.declared.Refusal.{Refusal}
use Rattle.std.specs.Float.Ieee.Scale.{finite}
use Rattle.outcome.specs.Outcome.{Outcome, given, unless}
use Rattle.number_text.specs.write.Writing.{Writes, Takes}
use Rattle.cash_flow.specs.currency.Amounts.{is_currency, currency_text}
use Rattle.cash_flow.specs.declared.currency.Currency.{Currency}
use Rattle.decimal.specs.float.Decimal.{decimal_text16}

-- an amount in at least 16 columns with 4 decimals, a blank, and the currency
unfoldable pub amount_text : Float → Currency → List ℕ
amount_text x c = decimal_text16 x ++ (32 ∷ currency_text c)

-- 15: not finite; 17: currency malformed
unfoldable pub amount_shown : Float → Currency → Outcome (List ℕ)
amount_shown x c = unless (finite x) 15 (unless (is_currency c) 17 (given (amount_text x c)))

-- what the entry points promise: the length of an amount
abbrev pub AmountTakes : Float → Currency → Result ℕ Refusal → Type 0
AmountTakes x c r = Takes (amount_shown x c) r

-- and its text
abbrev pub AmountWrites : Float → Currency → List ℕ → List ℕ → Result ℕ Refusal → Type 0
AmountWrites x c d e r = Writes (amount_shown x c) d e r
