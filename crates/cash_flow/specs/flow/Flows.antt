-- Cash flows, and what the answer of a routine that writes them says.
use Rattle.std.specs.Prelude.{ℕ, ◌≡◌, Bool, false, Float, Result}
use Rattle.std.specs.Float.{nan, inf, fin, binary64}
use Rattle.std.specs.Float.Ieee.{sub, le}
use Rattle.outcome.specs.Outcome.{value, returned, both}
use Rattle.outcome.specs.Refusals.{outcome_of}
use Rattle.outcome.specs.declared.Refusal.{Refusal}
use Rattle.calendar.specs.dates.Dates.{is_same}
use Rattle.calendar.specs.serial.Answers.{date_zero, date_of}
use Rattle.calendar.specs.declared.dates.Date.{Date}
use Rattle.cash_flow.specs.currency.Amounts.{is_same_currency}
use Rattle.cash_flow.specs.declared.flow.CashFlow.{CashFlow}

-- what is returned of it; the zero is no flows
abbrev pub flows_returned : Result ℕ Refusal → ℕ × ℕ
flows_returned r = returned 0 (outcome_of r)

-- the date of a serial day in a plain list; a day that does not exist has the zero date of a
-- refusal
unfoldable pub date_on : ℕ → Date
date_on d = value date_zero (date_of (record { 0 = d }))

-- dates and currencies are equal
unfoldable pub aggregatable_flows : CashFlow → CashFlow → Bool
aggregatable_flows a b = both (is_same a.date b.date) (is_same_currency a.currency b.currency)

-- a number, its sign dropped
unfoldable pub absolute : Float → Float
absolute nan = nan
absolute (inf s) = inf false
absolute (fin s m e) = fin false m e

-- a difference, its sign dropped, is at most the tolerance (nothing is at most a NaN, nor a NaN at
-- most anything)
unfoldable pub is_within : Float → Float → Bool
is_within d tol = le (absolute d) tol

-- yes if dates and currencies are equal and the f64 difference, sign dropped, is at most the
-- tolerance; else no
unfoldable pub same_flows : CashFlow → CashFlow → Float → Bool
same_flows a b tol = both (aggregatable_flows a b) (is_within (sub binary64 a.amount b.amount) tol)

-- what the entry points promise of their result r
abbrev pub AggregatablePromise : CashFlow → CashFlow → Bool → Type 0
AggregatablePromise a b r = r ≡ aggregatable_flows a b

abbrev pub ComparisonPromise : CashFlow → CashFlow → Float → Bool → Type 0
ComparisonPromise a b tol r = r ≡ same_flows a b tol
