-- Day adjustment: none, following, preceding and modified.
use Rattle.std.specs.Prelude.{ℕ, ◌≡◌, List, eqb, Result}
use Rattle.outcome.specs.Outcome.{Outcome, given, unless, and_then, pick}
use Rattle.outcome.specs.Refusals.{outcome_of}
use Rattle.outcome.specs.declared.Refusal.{Refusal}
use Rattle.calendar.specs.dates.Dates.{is_date, day_number}
use Rattle.calendar.specs.serial.Answers.{date_of}
use Rattle.calendar.specs.declared.dates.Date.{Date}
use Rattle.business_days.specs.table.Table.{is_table}
use Rattle.business_days.specs.table.Business.{is_business, next_from, prev_from}
use Rattle.day_adjust.specs.declared.DayAdjust.{DayAdjust}
use Rattle.day_adjust.specs.declared.DayAdjust.TheVariants as rule

-- the dates of the next and of the previous business day
unfoldable pub next_date : List ℕ → ℕ → Outcome Date
next_date table n = and_then (next_from table n) date_of

unfoldable pub prev_date : List ℕ → ℕ → Outcome Date
prev_date table n = and_then (prev_from table n) date_of

-- the next business day, unless its month differs, then the previous
unfoldable pub modified_date : List ℕ → ℕ → ℕ → Outcome Date
modified_date table n month = and_then (next_date table n) (λ u. pick (eqb u.month month) (given u) (prev_date table n))

-- where a day that is no business day moves: none leaves it
abbrev pub moved_date : DayAdjust → Date → ℕ → List ℕ → Outcome Date
moved_date rule.None t n table = given t
moved_date rule.Following t n table = next_date table n
moved_date rule.Preceding t n table = prev_date table n
moved_date rule.Modified t n table = modified_date table n t.month

-- a business day stays
unfoldable pub adjusted : DayAdjust → Date → List ℕ → Outcome Date
adjusted r t table = pick (is_business table (day_number t)) (given t) (moved_date r t (day_number t) table)

-- order: 1 for the date, 13 (also under none), then the search's 1
unfoldable pub adjust_date : DayAdjust → Date → List ℕ → Outcome Date
adjust_date r t table = unless (is_date t) 1 (unless (is_table table) 13 (adjusted r t table))

-- what the entry point promises of its result
abbrev pub AdjustPromise : DayAdjust → Date → List ℕ → Result Date Refusal → Type 0
AdjustPromise r t table answer = outcome_of answer ≡ adjust_date r t table
