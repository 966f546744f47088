-- Fifteen months back, the refusals in their order, and business days, as theorems about the
-- definitions; the desk card's steps stand in `desk_card`.
use Prim.Native.Nat.{ℕ}
use mathlib.Core.Path.{◌≡◌, refl, ap, ◌∙◌}
use mathlib.Core.List.{List, [], ◌∷◌}
use lib.Dec.{lit≤}
use lib.IntN.{ℤ, pos, negsuc}
use Rattle.outcome.specs.Outcome.{Outcome, given, refused, and_then}
use Rattle.calendar.specs.dates.Dates.{is_date, is_day, month_date}
use Rattle.calendar.specs.serial.Answers.{date_of, weekday_of}
use Rattle.calendar.specs.declared.dates.Date.{Date}
use Rattle.calendar.proofs.dates.Dates.{number-by_rule}
use Rattle.calendar.proofs.dates.Inverse.{date-at}
use Rattle.calendar.proofs.dates.Examples.{last-number, saturday_number}
use Rattle.calendar.specs.gregorian.Gregorian.{leap, length_in, month_length, days_before}
use Rattle.date_step.proofs.Examples.{on_from}
use Rattle.date_step.specs.Steps.{from_zero_to, months_later, days_later}
use Rattle.business_days.specs.table.Table.{ascends_from, is_table, is_listed}
use Rattle.business_days.specs.table.Business.{is_weekend, is_business, first_of, next_from, last_of, prev_from, repeated}
use Rattle.time_period.specs.added.Added.{add_to, sub_from}
use Rattle.time_period.specs.steps.Steps.{absent, table, business_day, business_step, inverse_of}
use Rattle.time_period.specs.declared.steps.TimePeriodUnit.TheVariants.{Daily, BusinessDaily, Weekly, Monthly}
use Rattle.calendar.proofs.dates.Examples.{on}
use Rattle.time_period.proofs.steps.Examples.{of}

-- 2021-03-15 -15M, added and subtracted
pub record FifteenMonths : Type 0 where
  pub added : add_to (of (negsuc 14) Monthly) absent (on 2021 3 15) ≡ given (on 2019 12 15)
  pub subtracted : sub_from (of (pos 15) Monthly) absent (on 2021 3 15) ≡ given (on 2019 12 15)

pub fifteen_months : FifteenMonths
unfolding leap length_in month_length is_date month_date from_zero_to months_later inverse_of add_to sub_from
fifteen_months = record { added = refl; subtracted = refl }

-- the calendar's end, the least number, and the order: 1 for the date, 4, 12, 13
pub record Refusals : Type 0 where
  pub a_day_past : add_to (of (pos 1) Daily) absent (on 9999 12 31) ≡ refused 1
  pub a_week_past : add_to (of (pos 1) Weekly) absent (on 9999 12 25) ≡ refused 1
  pub least_added : add_to (of (negsuc 2147483647) Daily) absent (on 9999 12 31) ≡ refused 1
  pub least_off : sub_from (of (negsuc 2147483647) Daily) absent (on 9999 12 31) ≡ refused 4
  pub date_before_table : add_to (of (pos 0) BusinessDaily) absent (on 2021 2 29) ≡ refused 1
  pub date_before_least : sub_from (of (negsuc 2147483647) Daily) absent (on 2021 2 29) ≡ refused 1
  pub least_before_table : sub_from (of (negsuc 2147483647) BusinessDaily) absent (on 2021 1 1) ≡ refused 4
  pub no_table : add_to (of (pos 0) BusinessDaily) absent (on 2021 1 1) ≡ refused 12
  pub no_table_off : sub_from (of (pos 0) BusinessDaily) absent (on 2021 1 1) ≡ refused 12
  pub bad_table : add_to (of (pos 1) Daily) (table (8 ∷ 7 ∷ [])) (on 9999 12 31) ≡ refused 13
  pub least_before_bad_table : sub_from (of (negsuc 2147483647) Monthly) (table (8 ∷ 7 ∷ [])) (on 2021 1 1) ≡ refused 4

pub refusals : Refusals
unfolding leap length_in month_length days_before is_date from_zero_to days_later business_step ascends_from is_table inverse_of add_to sub_from
refusals =
    record {
      a_day_past = ap (on_from (pos 1)) last-number;
      a_week_past = ap (on_from (pos 7)) (number-by_rule 9999 12 25 (lit≤ tt));
      least_added = ap (on_from (negsuc 2147483647)) last-number;
      least_off = refl;
      date_before_table = refl;
      date_before_least = refl;
      least_before_table = refl;
      no_table = refl;
      no_table_off = refl;
      bad_table = refl;
      least_before_bad_table = refl;
    }

-- from Saturday 2021-07-31: no business day stays there, one leads to Monday, one back to Friday,
-- and a listed Monday is passed over
pub record BusinessDays : Type 0 where
  pub none : add_to (of (pos 0) BusinessDaily) (table []) (on 2021 7 31) ≡ given (on 2021 7 31)
  pub one : add_to (of (pos 1) BusinessDaily) (table []) (on 2021 7 31) ≡ given (on 2021 8 2)
  pub one_off : sub_from (of (pos 1) BusinessDaily) (table []) (on 2021 7 31) ≡ given (on 2021 7 30)
  pub one_listed : sub_from (of (negsuc 0) BusinessDaily) (table (738004 ∷ [])) (on 2021 7 31) ≡ given (on 2021 8 3)

-- so many business days on from a serial day
abbrev open_from : List ℕ → ℤ → ℕ → Outcome Date
open_from h n k = and_then (business_day h n k) date_of

pub business_days : BusinessDays
unfolding leap length_in month_length days_before is_date is_day weekday_of ascends_from is_table is_listed is_weekend is_business first_of next_from last_of prev_from repeated business_step inverse_of add_to sub_from
business_days =
    record {
      none = ap (open_from [] (pos 0)) saturday_number ∙ date-at (on 2021 7 31) 738002 refl saturday_number;
      one = ap (open_from [] (pos 1)) saturday_number ∙ date-at (on 2021 8 2) 738004 refl (number-by_rule 2021 8 2 (lit≤ tt));
      one_off = ap (open_from [] (negsuc 0)) saturday_number ∙ date-at (on 2021 7 30) 738001 refl (number-by_rule 2021 7 30 (lit≤ tt));
      one_listed = ap (open_from (738004 ∷ []) (pos 1)) saturday_number ∙ date-at (on 2021 8 3) 738005 refl (number-by_rule 2021 8 3 (lit≤ tt));
    }
