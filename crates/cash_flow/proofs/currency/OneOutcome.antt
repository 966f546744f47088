-- No second answer satisfies an entry point's promise; and an amount's answer is fixed by its
-- outcome.
use mathlib.Core.Path.{◌≡◌}
use mathlib.Core.Bool.{Bool}
use lib.Ieee.{Float}
use Rattle.outcome.specs.Outcome.{plus_zero}
use Rattle.outcome.specs.Refusals.{outcome_of}
use Rattle.outcome.proofs.Outcomes.{one_value, Returns, returns}
use Rattle.cash_flow.specs.currency.Amounts.{amount_returned, CurrencyPromise, SameCurrencyPromise, UpToBillionPromise}
use Rattle.cash_flow.specs.declared.currency.Currency.{Currency}

-- a refusal returns its number and the zero
pub amount-returned : Returns outcome_of plus_zero amount_returned
amount-returned = returns outcome_of plus_zero

pub one-is_currency : (c : Currency) (r s : Bool) → CurrencyPromise c r → CurrencyPromise c s → r ≡ s
one-is_currency c r s p q = one_value r s p q

pub one-is_same_currency : (a b : Currency) (r s : Bool) → SameCurrencyPromise a b r → SameCurrencyPromise a b s → r ≡ s
one-is_same_currency a b r s p q = one_value r s p q

pub one_is_up_to_billion : (x : Float) (r s : Bool) → UpToBillionPromise x r → UpToBillionPromise x s → r ≡ s
one_is_up_to_billion x r s p q = one_value r s p q
