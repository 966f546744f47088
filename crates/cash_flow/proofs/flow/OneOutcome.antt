-- An answer is fixed by its outcome, and no second result satisfies an entry point's promise.
use Rattle.std.specs.Prelude.{Result}
use Rattle.outcome.specs.Refusals.{outcome_of}
use Rattle.outcome.specs.declared.Refusal.{Refusal}
use Rattle.outcome.proofs.Refusals.{same_result}
use Prim.Native.Nat.{ℕ}
use mathlib.Core.Path.{◌≡◌}
use mathlib.Core.Bool.{Bool}
use lib.Ieee.{Float}
use Rattle.outcome.proofs.Outcomes.{one_value, Returns, returns}
use Rattle.calendar.specs.declared.dates.Date.{Date}
use Rattle.cash_flow.specs.flow.Flows.{flows_returned, date_on, AggregatablePromise, ComparisonPromise}
use Rattle.cash_flow.specs.declared.flow.CashFlow.{CashFlow}

pub same_flows-answer : (r s : Result ℕ Refusal) → outcome_of r ≡ outcome_of s → r ≡ s
same_flows-answer r s e = same_result r s e

-- a refusal returns its number and the zero
pub flows-returned : Returns outcome_of 0 flows_returned
flows-returned = returns outcome_of 0

pub one_aggregatable : (a b : CashFlow) (r s : Bool) → AggregatablePromise a b r → AggregatablePromise a b s → r ≡ s
one_aggregatable a b r s p q = one_value r s p q

pub one_comparison : (a b : CashFlow) (tol : Float) (r s : Bool) → ComparisonPromise a b tol r → ComparisonPromise a b tol s → r ≡ s
one_comparison a b tol r s p q = one_value r s p q

pub one-date_on : (day : ℕ) (r s : Date) → r ≡ date_on day → s ≡ date_on day → r ≡ s
one-date_on day r s p q = one_value r s p q
