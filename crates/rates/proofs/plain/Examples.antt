-- Lists at their edges, as theorems about the definitions: each computes.
use mathlib.Core.Path.{◌≡◌, refl}
use mathlib.Core.Bool.{false}
use mathlib.Core.List.{[], ◌∷◌}
use lib.IntN.{pos}
use lib.Ieee.{Float, fin, add, mul, div, lt, eq, le, of_int}
use Rattle.outcome.specs.Lists.{values_from}
use Rattle.outcome.specs.Outcome.{given, refused}
use Rattle.calendar.specs.gregorian.Gregorian.{leap, length_in, month_length, year_length, days_before}
use Rattle.calendar.specs.dates.Dates.{is_date, is_day, is_before, is_same, day_number}
use Rattle.cash_flow.specs.currency.Amounts.{is_capital, is_currency, is_same_currency}
use Rattle.cash_flow.specs.declared.currency.Currency.{Currency}
use Rattle.day_fraction.specs.Fractions.{exact_fraction, bits, impossible}
use Rattle.day_count_conv.specs.conventions.Conventions.{simple_fraction, year_fraction}
use Rattle.day_count_conv.specs.declared.conventions.DayCountConv.TheVariants as conv
use Rattle.rates.specs.factors.Factors.{is_discount_rate, factor_of}
use Rattle.rates.specs.simple.Rates.{fraction_to, is_one_currency, flow_value, flow_added, stream_from, discounted_stream}
use Rattle.rates.specs.declared.simple.FlatRate.{FlatRate}
use Rattle.calendar.specs.serial.Answers.{date_of}
use Rattle.cash_flow.specs.flow.Flows.{date_on}
use Rattle.rates.specs.plain.Plain.{currency_at, flow_at, flows_of}
use Rattle.calendar.proofs.dates.Examples.{on}

abbrev eur : Currency
eur = record { first = 69; second = 85; third = 82 }

abbrev zero : Float
zero = fin false 0 (pos 0)

abbrev one : Float
one = fin false 1 (pos 0)

-- Act/365 at 100 percent
abbrev flat : FlatRate
flat = record { rate = one; day_count_conv = conv.Act365; currency = eur }

-- EUR is 4543826, and a day or a currency that is not there is refused 1 or 17
pub record Lists : Type 0 where
  pub euro : currency_at 4543826 ≡ eur
  pub four_bytes : currency_at 21321042 ≡ record { first = 0; second = 0; third = 0 }
  pub no_day : discounted_stream flat (on 2021 1 1) (flows_of [] (4543826 ∷ []) (one ∷ [])) ≡ refused 1
  pub no_currency : discounted_stream flat (on 2021 1 1) (flows_of (1 ∷ []) [] (one ∷ [])) ≡ refused 17
  pub no_amounts : discounted_stream flat (on 2021 1 1) (flows_of (1 ∷ []) (1 ∷ []) []) ≡ given zero

pub lists : Lists
unfolding add mul div lt eq le of_int leap length_in month_length year_length days_before is_date is_day is_before is_same day_number is_capital is_currency is_same_currency exact_fraction bits impossible simple_fraction year_fraction is_discount_rate factor_of fraction_to is_one_currency flow_value flow_added stream_from discounted_stream date_of date_on currency_at flow_at values_from flows_of
lists = record { euro = refl; four_bytes = refl; no_day = refl; no_currency = refl; no_amounts = refl }
