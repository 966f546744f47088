-- A stream of flows as three lists: serial days, currencies as numbers, and amounts.
use Rattle.std.specs.Prelude.{ℕ, ◌/◌, ◌%◌, List, ltb, length, get_or, Float, Result}
use Rattle.outcome.specs.declared.Refusal.{Refusal}
use Rattle.std.specs.Float.{nan}
use Rattle.outcome.specs.Lists.{values_from}
use Rattle.outcome.specs.Outcome.{pick}
use Rattle.calendar.specs.declared.dates.Date.{Date}
use Rattle.cash_flow.specs.declared.currency.Currency.{Currency}
use Rattle.cash_flow.specs.flow.Flows.{date_on}
use Rattle.cash_flow.specs.declared.flow.CashFlow.{CashFlow}
use Rattle.rates.specs.simple.Rates.{StreamPromise}
use Rattle.rates.specs.declared.simple.FlatRate.{FlatRate}

-- the currency whose bytes are first * 65536 + second * 256 + third; from 16777216 on, one that is
-- malformed
unfoldable pub currency_at : ℕ → Currency
currency_at n =
    pick (ltb n 16777216)
    (record { first = n / 65536; second = n / 256 % 256; third = n % 256 })
    (record { first = 0; second = 0; third = 0 })

-- the flow at place i; a day or a currency that its list does not have is 0, so it is refused 1 or
-- 17
unfoldable pub flow_at : List ℕ → List ℕ → List Float → ℕ → CashFlow
flow_at days currencies amounts i =
    record { date = date_on (get_or days i 0); currency = currency_at (get_or currencies i 0); amount = get_or amounts i nan }

-- the flows from place i on, so many of them
abbrev pub flows_from : List ℕ → List ℕ → List Float → ℕ → ℕ → List CashFlow
flows_from days currencies amounts i n = values_from (flow_at days currencies amounts) i n

-- as many flows as there are amounts
unfoldable pub flows_of : List ℕ → List ℕ → List Float → List CashFlow
flows_of days currencies amounts = flows_from days currencies amounts 0 (length amounts)

-- what the entry point promises of its result r
abbrev pub DiscountPlainPromise : FlatRate → Date → List ℕ → List ℕ → List Float → Result Float Refusal → Type 0
DiscountPlainPromise rate today days currencies amounts r = StreamPromise rate today (flows_of days currencies amounts) r
