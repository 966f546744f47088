-- Flow comparison at its edges, as theorems about the definitions: each computes.
use Prim.Native.Nat.{ℕ}
use mathlib.Core.Path.{◌≡◌, refl}
use mathlib.Core.Bool.{true, false}
use lib.IntN.{pos, negsuc}
use lib.Ieee.{Float, nan, inf, fin, neg, sub, lt, eq, le}
use Rattle.calendar.specs.dates.Dates.{is_same}
use Rattle.cash_flow.specs.currency.Amounts.{is_same_currency}
use Rattle.cash_flow.specs.flow.Flows.{aggregatable_flows, absolute, is_within, same_flows}
use Rattle.cash_flow.specs.declared.flow.CashFlow.{CashFlow}

-- an amount of a currency on a day of July 2021
abbrev flow : ℕ → ℕ → Float → CashFlow
flow d letter x =
    record { date = record { year = 2021; month = 7; day = d }; currency = record { first = 69; second = 85; third = letter }; amount = x }

abbrev minus_zero : Float
minus_zero = fin true 0 (pos 0)

abbrev zero : Float
zero = fin false 0 (pos 0)

abbrev one : Float
one = fin false 1 (pos 0)

abbrev half : Float
half = fin false 1 (negsuc 0)

pub record Compared : Type 0 where
  pub same : same_flows (flow 15 82 one) (flow 15 82 one) zero ≡ true
  -- the difference may have either sign, and may be the tolerance
  pub at_tolerance : same_flows (flow 15 82 half) (flow 15 82 one) half ≡ true
  pub other_way : same_flows (flow 15 82 one) (flow 15 82 half) half ≡ true
  pub past_tolerance : same_flows (flow 15 82 one) (flow 15 82 half) zero ≡ false
  pub another_day : same_flows (flow 16 82 one) (flow 15 82 one) one ≡ false
  pub another_currency : same_flows (flow 15 82 one) (flow 15 83 one) one ≡ false
  -- a day that no month has is compared like any other
  pub no_such_date : same_flows (flow 32 82 one) (flow 32 82 one) zero ≡ true
  pub negative_tolerance : same_flows (flow 15 82 one) (flow 15 82 one) (fin true 1 (pos 0)) ≡ false
  pub minus_zero_tolerance : same_flows (flow 15 82 one) (flow 15 82 one) minus_zero ≡ true
  pub no_tolerance : same_flows (flow 15 82 one) (flow 15 82 one) nan ≡ false
  pub no_amount : same_flows (flow 15 82 nan) (flow 15 82 nan) (inf false) ≡ false
  -- infinity minus infinity is no number; infinity minus a number is infinity
  pub infinities : same_flows (flow 15 82 (inf false)) (flow 15 82 (inf false)) (inf false) ≡ false
  pub infinite_tolerance : same_flows (flow 15 82 (inf true)) (flow 15 82 one) (inf false) ≡ true

pub compared : Compared
unfolding aggregatable_flows is_same is_same_currency absolute is_within same_flows sub neg lt eq le
compared =
    record {
      same = refl;
      at_tolerance = refl;
      other_way = refl;
      past_tolerance = refl;
      another_day = refl;
      another_currency = refl;
      no_such_date = refl;
      negative_tolerance = refl;
      minus_zero_tolerance = refl;
      no_tolerance = refl;
      no_amount = refl;
      infinities = refl;
      infinite_tolerance = refl;
    }
