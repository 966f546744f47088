-- Discounting at its edges, as theorems about the definitions: each computes.
use Prim.Native.Nat.{ℕ}
use mathlib.Core.Path.{◌≡◌, refl}
use mathlib.Core.Bool.{true, false}
use mathlib.Core.List.{[], ◌∷◌}
use lib.IntN.{pos, negsuc}
use lib.Ieee.{Float, nan, inf, fin, add, mul, div, lt, eq, le, of_int}
use Rattle.outcome.specs.Outcome.{given, refused}
use Rattle.calendar.specs.gregorian.Gregorian.{leap, length_in, month_length, year_length, days_before}
use Rattle.calendar.specs.dates.Dates.{is_date, is_before, is_same, day_number}
use Rattle.calendar.specs.declared.dates.Date.{Date}
use Rattle.cash_flow.specs.currency.Amounts.{is_capital, is_currency, is_same_currency}
use Rattle.cash_flow.specs.declared.currency.Currency.{Currency}
use Rattle.cash_flow.specs.declared.flow.CashFlow.{CashFlow}
use Rattle.day_fraction.specs.Fractions.{exact_fraction, bits, impossible}
use Rattle.day_count_conv.specs.conventions.Conventions.{simple_fraction, year_fraction}
use Rattle.day_count_conv.specs.declared.conventions.DayCountConv.{DayCountConv}
use Rattle.day_count_conv.specs.declared.conventions.DayCountConv.TheVariants as conv
use Rattle.rates.specs.factors.Factors.{is_discount_rate, factor_of}
use Rattle.rates.specs.simple.Rates.{fraction_to, discount_factor, is_one_currency, flow_value, discounted_flow, flow_added, stream_from, discounted_stream}
use Rattle.rates.specs.declared.simple.FlatRate.{FlatRate}
use Rattle.calendar.proofs.dates.Examples.{on}

abbrev currency : ℕ → Currency
currency letter = record { first = 69; second = 85; third = letter }

-- EUR, EUS and EUr
abbrev eur : Currency
eur = currency 82

abbrev eus : Currency
eus = currency 83

abbrev small : Currency
small = currency 114

abbrev zero : Float
zero = fin false 0 (pos 0)

abbrev minus_zero : Float
minus_zero = fin true 0 (pos 0)

abbrev one : Float
one = fin false 1 (pos 0)

abbrev half : Float
half = fin false 1 (negsuc 0)

-- 2 ^ 1023: twice it is past the range
abbrev huge : Float
huge = fin false 1 (pos 1023)

abbrev flat : Float → DayCountConv → FlatRate
flat x rule = record { rate = x; day_count_conv = rule; currency = eur }

abbrev flow : Date → Float → Currency → CashFlow
flow t x c = record { date = t; currency = c; amount = x }

-- a year at 100 percent halves a payment; -0.0 is a rate, and discounts nothing
pub record Values : Type 0 where
  pub factor : discount_factor (flat one conv.Act365) (on 2021 1 1) (on 2022 1 1) ≡ given half
  pub same-day : discount_factor (flat one conv.D30E360) (on 2021 1 31) (on 2021 1 31) ≡ given one
  pub minus_zero_rate : discount_factor (flat minus_zero conv.Act365) (on 2021 1 1) (on 2022 1 1) ≡ given one
  pub one-flow : discounted_flow (flat one conv.Act365) (on 2021 1 1) (flow (on 2022 1 1) one eur) ≡ given half
  pub stream : discounted_stream (flat one conv.Act365) (on 2021 1 1) (flow (on 2022 1 1) one eur ∷ flow (on 2021 1 1) half eur ∷ []) ≡ given one
  -- a flow keeps the sign of a zero, and a stream, which begins at 0, does not
  pub minus_zero_flow : discounted_flow (flat zero conv.Act365) (on 2021 1 1) (flow (on 2021 1 1) minus_zero eur) ≡ given minus_zero
  pub minus_zero_stream : discounted_stream (flat zero conv.Act365) (on 2021 1 1) (flow (on 2021 1 1) minus_zero eur ∷ []) ≡ given zero
  -- a stream may sum to infinity
  pub overflow : discounted_stream (flat zero conv.Act365) (on 2021 1 1) (flow (on 2021 1 1) huge eur ∷ flow (on 2021 1 1) huge eur ∷ []) ≡ given (inf false)

pub values : Values
unfolding add mul div lt eq le of_int leap length_in month_length year_length days_before is_date is_before is_same day_number is_capital is_currency is_same_currency exact_fraction bits impossible simple_fraction year_fraction is_discount_rate factor_of fraction_to discount_factor is_one_currency flow_value discounted_flow flow_added stream_from discounted_stream
values =
    record {
      factor = refl;
      same-day = refl;
      minus_zero_rate = refl;
      one-flow = refl;
      stream = refl;
      minus_zero_flow = refl;
      minus_zero_stream = refl;
      overflow = refl;
    }

-- 15 for the rate, then flow by flow 15, 17 and the fraction's refusals; the first refusal ends a
-- stream
pub record Order : Type 0 where
  pub rate-first : discounted_flow (flat nan conv.ActActICMA) (on 2021 2 29) (flow (on 2021 2 29) nan small) ≡ refused 15
  pub rate_above_one : discount_factor (flat (fin false 3 (negsuc 0)) conv.Act365) (on 2021 1 1) (on 2022 1 1) ≡ refused 15
  pub no_amount : discounted_flow (flat one conv.ActActICMA) (on 2021 2 29) (flow (on 2021 2 29) (inf true) small) ≡ refused 15
  pub malformed : discounted_flow (flat one conv.ActActICMA) (on 2021 2 29) (flow (on 2021 2 29) one small) ≡ refused 17
  pub different : discounted_flow (flat one conv.ActActICMA) (on 2021 2 29) (flow (on 2021 2 29) one eus) ≡ refused 17
  pub no_such_day : discounted_flow (flat one conv.ActActICMA) (on 2021 2 29) (flow (on 2021 1 1) one eur) ≡ refused 1
  pub paid-before : discounted_flow (flat one conv.ActActICMA) (on 2021 1 2) (flow (on 2021 1 1) one eur) ≡ refused 19
  pub icma : discounted_flow (flat one conv.ActActICMA) (on 2021 1 1) (flow (on 2021 1 2) one eur) ≡ refused 10
  pub impossible_360 : discount_factor (flat one conv.D30_360) (on 2021 1 30) (on 2021 1 31) ≡ refused 9
  -- no flow, no day to judge
  pub empty : discounted_stream (flat one conv.ActActICMA) (on 2021 2 29) [] ≡ given zero
  pub rate_of_none : discounted_stream (flat (inf false) conv.Act365) (on 2021 1 1) [] ≡ refused 15
  pub first_ends : discounted_stream (flat one conv.Act365) (on 2021 1 1) (flow (on 2021 1 1) one eur ∷ flow (on 2021 1 1) one eus ∷ flow (on 2021 1 1) nan eur ∷ []) ≡ refused 17

pub order : Order
unfolding add mul div lt eq le of_int leap length_in month_length year_length days_before is_date is_before is_same day_number is_capital is_currency is_same_currency exact_fraction bits impossible simple_fraction year_fraction is_discount_rate factor_of fraction_to discount_factor is_one_currency flow_value discounted_flow flow_added stream_from discounted_stream
order =
    record {
      rate-first = refl;
      rate_above_one = refl;
      no_amount = refl;
      malformed = refl;
      different = refl;
      no_such_day = refl;
      paid-before = refl;
      icma = refl;
      impossible_360 = refl;
      empty = refl;
      rate_of_none = refl;
      first_ends = refl;
    }
