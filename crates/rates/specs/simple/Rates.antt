-- `Simple` discounting at a flat rate: the factor, one flow, and a stream of flows.
use Rattle.std.specs.Prelude.{ℕ, ◌≡◌, Bool, List, [], ◌∷◌, pos, Float, Result}
use Rattle.std.specs.Float.{binary64}
use Rattle.std.specs.Float.Ieee.{add, mul}
use Rattle.std.specs.Float.Ieee.Scale.{finite}
use Rattle.outcome.specs.Outcome.{Outcome, given, returned, plus_zero, unless, and_then, both}
use Rattle.outcome.specs.Refusals.{outcome_of}
use Rattle.outcome.specs.declared.Refusal.{Refusal}
use Rattle.calendar.specs.declared.dates.Date.{Date}
use Rattle.cash_flow.specs.currency.Amounts.{is_currency, is_same_currency}
use Rattle.cash_flow.specs.declared.currency.Currency.{Currency}
use Rattle.cash_flow.specs.declared.flow.CashFlow.{CashFlow}
use Rattle.day_fraction.specs.Fractions.{whole}
use Rattle.day_count_conv.specs.conventions.Conventions.{year_fraction, fractions_in_f64, no_terms}
use Rattle.day_count_conv.specs.declared.conventions.DayCountConv.{DayCountConv}
use Rattle.rates.specs.factors.Factors.{is_discount_rate, factor_of}
use Rattle.rates.specs.declared.simple.FlatRate.{FlatRate}

abbrev zero : Float
zero = whole (pos 0)

-- what is returned of it; the zero is +0.0
abbrev pub factor_returned : Result Float Refusal → ℕ × Float
factor_returned r = returned plus_zero (outcome_of r)

-- the fraction from today to the payment date; no roll date and no period are given, so ICMA is
-- refused 10
unfoldable pub fraction_to : DayCountConv → Date → Date → Outcome Float
fraction_to rule today t = year_fraction fractions_in_f64 rule today t no_terms

-- 15 for the rate, then the fraction's refusals
unfoldable pub discount_factor : FlatRate → Date → Date → Outcome Float
discount_factor r today t = unless (is_discount_rate r.rate) 15 (and_then (fraction_to r.day_count_conv today t) (λ yf. given (factor_of r.rate yf)))

-- 17: currency malformed or different
unfoldable pub is_one_currency : Currency → Currency → Bool
is_one_currency a b = both (is_currency a) (both (is_currency b) (is_same_currency a b))

-- a flow: 15, 17 and the fraction's refusals; then the factor times the amount
unfoldable pub flow_value : FlatRate → Date → CashFlow → Outcome Float
flow_value r today f =
    unless (finite f.amount) 15
    (unless (is_one_currency r.currency f.currency) 17
    (and_then (fraction_to r.day_count_conv today f.date) (λ yf. given (mul binary64 (factor_of r.rate yf) f.amount))))

-- 15 for the rate, then the flow
unfoldable pub discounted_flow : FlatRate → Date → CashFlow → Outcome Float
discounted_flow r today f = unless (is_discount_rate r.rate) 15 (flow_value r today f)

-- a sum, and one flow more
unfoldable pub flow_added : FlatRate → Date → Float → CashFlow → Outcome Float
flow_added r today sum f = and_then (flow_value r today f) (λ x. given (add binary64 sum x))

-- a stream: flow by flow, in order; the first refusal ends it
unfoldable pub stream_from : FlatRate → Date → Float → List CashFlow → Outcome Float
stream_from r today sum [] = given sum
stream_from r today sum (f ∷ fs) = and_then (flow_added r today sum f) (λ next. stream_from r today next fs)

-- 15 for the rate, then the sum from 0
unfoldable pub discounted_stream : FlatRate → Date → List CashFlow → Outcome Float
discounted_stream r today fs = unless (is_discount_rate r.rate) 15 (stream_from r today zero fs)

-- what the entry points promise of their result r
abbrev pub FactorPromise : FlatRate → Date → Date → Result Float Refusal → Type 0
FactorPromise rate today t r = outcome_of r ≡ discount_factor rate today t

abbrev pub FlowPromise : FlatRate → Date → CashFlow → Result Float Refusal → Type 0
FlowPromise rate today f r = outcome_of r ≡ discounted_flow rate today f

abbrev pub StreamPromise : FlatRate → Date → List CashFlow → Result Float Refusal → Type 0
StreamPromise rate today fs r = outcome_of r ≡ discounted_stream rate today fs
