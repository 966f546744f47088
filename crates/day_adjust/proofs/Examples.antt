-- The desk card's l, and the ends of the calendar, as theorems about the definitions.
use Prim.Native.Nat.{ℕ}
use mathlib.Core.Path.{◌≡◌, refl, ap, ◌∙◌}
use mathlib.Core.List.{List, [], ◌∷◌}
use lib.Dec.{eqb, lit≤}
use Rattle.outcome.specs.Outcome.{Outcome, given, refused, and_then, pick}
use Rattle.calendar.specs.dates.Dates.{is_date, is_day}
use Rattle.calendar.specs.serial.Answers.{weekday_of}
use Rattle.calendar.specs.declared.dates.Date.{Date}
use Rattle.calendar.proofs.dates.Dates.{number-by_rule}
use Rattle.calendar.proofs.dates.Inverse.{date-at}
use Rattle.calendar.proofs.dates.Examples.{first-number, last-number, saturday_number}
use Rattle.calendar.specs.gregorian.Gregorian.{leap, length_in, month_length, days_before}
use Rattle.business_days.specs.table.Table.{ascends_from, is_table, is_listed}
use Rattle.business_days.specs.table.Business.{is_weekend, is_business, first_of, next_from, last_of, prev_from}
use Rattle.day_adjust.specs.Adjustment.{next_date, prev_date, modified_date, moved_date, adjusted, adjust_date}
use Rattle.day_adjust.specs.declared.DayAdjust.{DayAdjust}
use Rattle.day_adjust.specs.declared.DayAdjust.TheVariants as rule
use Rattle.calendar.proofs.dates.Examples.{on}

-- where a date with the serial day n moves
abbrev moved_from : DayAdjust → Date → List ℕ → ℕ → Outcome Date
moved_from r t table n = pick (is_business table n) (given t) (moved_date r t n table)

pub record Card : Type 0 where
  pub l : adjust_date rule.Modified (on 2021 7 31) [] ≡ given (on 2021 7 30)
  pub following : adjust_date rule.Following (on 2021 7 31) [] ≡ given (on 2021 8 2)
  pub preceding : adjust_date rule.Preceding (on 2021 7 31) [] ≡ given (on 2021 7 30)
  pub none : adjust_date rule.None (on 2021 7 31) [] ≡ given (on 2021 7 31)

pub card : Card
unfolding leap length_in month_length days_before is_date is_day weekday_of ascends_from is_table is_listed is_weekend is_business first_of next_from last_of prev_from next_date prev_date modified_date adjusted adjust_date
card =
    let friday = date-at (on 2021 7 30) 738001 refl (number-by_rule 2021 7 30 (lit≤ tt)) in
    let monday = date-at (on 2021 8 2) 738004 refl (number-by_rule 2021 8 2 (lit≤ tt)) in
    record {
      l =
          ap (moved_from rule.Modified (on 2021 7 31) []) saturday_number
          ∙ ap (λ (o : Outcome Date). and_then o (λ u. pick (eqb u.month 7) (given u) (prev_date [] 738002))) monday
          ∙ friday;
      following = ap (moved_from rule.Following (on 2021 7 31) []) saturday_number ∙ monday;
      preceding = ap (moved_from rule.Preceding (on 2021 7 31) []) saturday_number ∙ friday;
      none = ap (moved_from rule.None (on 2021 7 31) []) saturday_number;
    }

-- 9999-12-31 listed: following and modified look ahead and refuse; preceding and none do not
abbrev last_listed : List ℕ
last_listed = 3652059 ∷ []

pub record LastDay : Type 0 where
  pub following : adjust_date rule.Following (on 9999 12 31) last_listed ≡ refused 1
  pub modified : adjust_date rule.Modified (on 9999 12 31) last_listed ≡ refused 1
  pub preceding : adjust_date rule.Preceding (on 9999 12 31) last_listed ≡ given (on 9999 12 30)
  pub none : adjust_date rule.None (on 9999 12 31) last_listed ≡ given (on 9999 12 31)

pub last-day : LastDay
unfolding leap length_in month_length days_before is_date is_day weekday_of ascends_from is_table is_listed is_weekend is_business first_of next_from last_of prev_from next_date prev_date modified_date adjusted adjust_date
last-day =
    record {
      following = ap (moved_from rule.Following (on 9999 12 31) last_listed) last-number;
      modified = ap (moved_from rule.Modified (on 9999 12 31) last_listed) last-number;
      preceding =
          ap (moved_from rule.Preceding (on 9999 12 31) last_listed) last-number
          ∙ date-at (on 9999 12 30) 3652058 refl (number-by_rule 9999 12 30 (lit≤ tt));
      none = ap (moved_from rule.None (on 9999 12 31) last_listed) last-number;
    }

-- the order: no such date before the table, the table also under none
pub record Order : Type 0 where
  pub date-first : adjust_date rule.None (on 2021 2 29) (5 ∷ 5 ∷ []) ≡ refused 1
  pub table_under_none : adjust_date rule.None (on 2021 7 31) (5 ∷ 5 ∷ []) ≡ refused 13
  pub first-day : adjust_date rule.Preceding (on 1 1 1) (1 ∷ []) ≡ refused 1

pub order : Order
unfolding leap length_in month_length days_before is_date is_day weekday_of ascends_from is_table is_listed is_weekend is_business last_of prev_from prev_date adjusted adjust_date
order =
    record {
      date-first = refl;
      table_under_none = refl;
      first-day = ap (moved_from rule.Preceding (on 1 1 1) (1 ∷ [])) first-number;
    }
