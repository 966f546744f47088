-- Flows as text, as theorems about the definitions: each computes.
use Prim.Native.Nat.{ℕ}
use mathlib.Core.Path.{◌≡◌, refl}
use mathlib.Core.Bool.{false}
use mathlib.Core.List.{List, [], ◌∷◌, ◌++◌}
use lib.IntN.{pos}
use lib.ListN.{replicate}
use lib.Ieee.{Float, nan, fin}
use Rattle.outcome.specs.Outcome.{given, refused, and_then}
use Rattle.number_text.specs.write.Writing.{digits, places_within, places, decimal_text, padded_text, right_aligned, put, written_length, written_bytes, shown_bytes}
use Rattle.calendar.specs.gregorian.Gregorian.{leap, length_in, month_length}
use Rattle.calendar.specs.dates.Dates.{is_date}
use Rattle.calendar.specs.declared.dates.Date.{Date}
use Rattle.cash_flow.specs.currency.Amounts.{is_capital, is_currency}
use Rattle.cash_flow.specs.declared.currency.Currency.{Currency}
use Rattle.cash_flow.specs.declared.flow.CashFlow.{CashFlow}
use Rattle.decimal.specs.float.Decimal.{ten_thousandths, four_decimals, decimal_text16}
use Rattle.flow_text.specs.date.DateTexts.{date_text, date_shown}
use Rattle.flow_text.specs.amount.AmountTexts.{amount_text, amount_shown}
use Rattle.flow_text.specs.flow.Texts.{flow_text, flow_shown}
use Rattle.calendar.proofs.dates.Examples.{on}

-- EUR, and a malformed one: EUr
abbrev eur : Currency
eur = record { first = 69; second = 85; third = 82 }

abbrev small : Currency
small = record { first = 69; second = 85; third = 114 }

-- 20 is 5 * 2 ^ 2, and 1000 is 125 * 2 ^ 3
abbrev twenty : Float
twenty = fin false 5 (pos 2)

abbrev thousand : Float
thousand = fin false 125 (pos 3)

abbrev flow : Date → Float → Currency → CashFlow
flow t x c = record { date = t; currency = c; amount = x }

abbrev blanks : ℕ → List ℕ
blanks n = replicate n 32

-- the paper's listing, line by line, without its line feeds
pub record Listing : Type 0 where
  -- `2021-07-15          20.0000 EUR`
  pub first : flow_shown (flow (on 2021 7 15) twenty eur) ≡ given ((50 ∷ 48 ∷ 50 ∷ 49 ∷ 45 ∷ 48 ∷ 55 ∷ 45 ∷ 49 ∷ 53 ∷ []) ++ (blanks 10 ++ (50 ∷ 48 ∷ 46 ∷ 48 ∷ 48 ∷ 48 ∷ 48 ∷ 32 ∷ 69 ∷ 85 ∷ 82 ∷ [])))
  -- `2022-01-17          20.0000 EUR`
  pub second : flow_shown (flow (on 2022 1 17) twenty eur) ≡ given ((50 ∷ 48 ∷ 50 ∷ 50 ∷ 45 ∷ 48 ∷ 49 ∷ 45 ∷ 49 ∷ 55 ∷ []) ++ (blanks 10 ++ (50 ∷ 48 ∷ 46 ∷ 48 ∷ 48 ∷ 48 ∷ 48 ∷ 32 ∷ 69 ∷ 85 ∷ 82 ∷ [])))
  -- `2022-01-17        1000.0000 EUR`
  pub third : flow_shown (flow (on 2022 1 17) thousand eur) ≡ given ((50 ∷ 48 ∷ 50 ∷ 50 ∷ 45 ∷ 48 ∷ 49 ∷ 45 ∷ 49 ∷ 55 ∷ []) ++ (blanks 8 ++ (49 ∷ 48 ∷ 48 ∷ 48 ∷ 46 ∷ 48 ∷ 48 ∷ 48 ∷ 48 ∷ 32 ∷ 69 ∷ 85 ∷ 82 ∷ [])))
  -- the first day: `0001-01-01`
  pub first-day : date_shown (on 1 1 1) ≡ given (48 ∷ 48 ∷ 48 ∷ 49 ∷ 45 ∷ 48 ∷ 49 ∷ 45 ∷ 48 ∷ 49 ∷ [])

pub listing : Listing
unfolding digits places_within places decimal_text padded_text right_aligned leap length_in month_length is_date is_capital is_currency ten_thousandths four_decimals decimal_text16 date_text amount_text flow_text date_shown amount_shown flow_shown
listing = record { first = refl; second = refl; third = refl; first-day = refl }

-- 15, 17, 1 and last 16, whatever else is wrong; and what was refused leaves the bytes
pub record Order : Type 0 where
  pub not_finite : and_then (flow_shown (flow (on 2021 2 29) nan small)) (written_length []) ≡ refused 15
  pub no_currency : and_then (flow_shown (flow (on 2021 2 29) twenty small)) (written_length []) ≡ refused 17
  pub no_date : and_then (flow_shown (flow (on 2021 2 29) twenty eur)) (written_length []) ≡ refused 1
  pub no_room : and_then (flow_shown (flow (on 2021 7 15) twenty eur)) (written_length (replicate 30 7)) ≡ refused 16
  pub room : and_then (flow_shown (flow (on 2021 7 15) twenty eur)) (written_length (replicate 31 7)) ≡ given 31
  pub date_before_room : and_then (date_shown (on 2021 2 29)) (written_length []) ≡ refused 1
  pub date_no_room : and_then (date_shown (on 2021 7 15)) (written_length (replicate 9 7)) ≡ refused 16
  pub amount_no_currency : and_then (amount_shown twenty small) (written_length []) ≡ refused 17
  pub kept : shown_bytes (replicate 30 7) (flow_shown (flow (on 2021 7 15) twenty eur)) ≡ replicate 30 7
  pub past-kept : shown_bytes (replicate 12 7) (date_shown (on 2021 7 15)) ≡ 50 ∷ 48 ∷ 50 ∷ 49 ∷ 45 ∷ 48 ∷ 55 ∷ 45 ∷ 49 ∷ 53 ∷ 7 ∷ 7 ∷ []

pub order : Order
unfolding digits places_within places decimal_text padded_text right_aligned put written_length written_bytes leap length_in month_length is_date is_capital is_currency ten_thousandths four_decimals decimal_text16 date_text amount_text flow_text date_shown amount_shown flow_shown
order =
    record {
      not_finite = refl;
      no_currency = refl;
      no_date = refl;
      no_room = refl;
      room = refl;
      date_before_room = refl;
      date_no_room = refl;
      amount_no_currency = refl;
      kept = refl;
      past-kept = refl;
    }
