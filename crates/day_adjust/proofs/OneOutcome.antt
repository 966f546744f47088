-- No second answer satisfies the entry point's promise; and a refusal's number is never 0.
use Rattle.std.specs.Prelude.{Result}
use Prim.Native.Nat.{ℕ}
use mathlib.Core.Path.{◌≡◌, sym, ◌∙◌}
use mathlib.Core.List.{List}
use native.Mathlib.Omega.{arith}
use lib.Dec.{eqb}
use Rattle.outcome.specs.Outcome.{given, Numbered, pick}
use Rattle.outcome.specs.declared.Refusal.{Refusal}
use Rattle.outcome.proofs.Outcomes.{unless_numbered, then_numbered, pick_numbered}
use Rattle.outcome.proofs.Refusals.{same_result}
use Rattle.calendar.specs.dates.Dates.{is_date, day_number}
use Rattle.calendar.specs.serial.Answers.{date_of}
use Rattle.calendar.specs.declared.dates.Date.{Date}
use Rattle.calendar.proofs.dates.OneOutcome.{date_of_numbered}
use Rattle.business_days.specs.table.Table.{is_table}
use Rattle.business_days.specs.table.Business.{is_business, next_from, prev_from}
use Rattle.day_adjust.specs.Adjustment.{next_date, prev_date, modified_date, moved_date, adjusted, adjust_date, AdjustPromise}
use Rattle.day_adjust.specs.declared.DayAdjust.{DayAdjust}
use Rattle.day_adjust.specs.declared.DayAdjust.TheVariants as rule
use Rattle.business_days.proofs.days.OneOutcome.{next_from_numbered, prev_from_numbered}

pub one_adjust : (r : DayAdjust) (t : Date) (table : List ℕ) (a b : Result Date Refusal) → AdjustPromise r t table a → AdjustPromise r t table b → a ≡ b
one_adjust r t table a b p q = same_result a b (p ∙ sym q)

-- every refusal has its number
next_numbered : (table : List ℕ) (n : ℕ) → Numbered (next_date table n)
unfolding next_date
next_numbered table n = then_numbered (next_from table n) date_of (next_from_numbered table n) date_of_numbered

prev_numbered : (table : List ℕ) (n : ℕ) → Numbered (prev_date table n)
unfolding prev_date
prev_numbered table n = then_numbered (prev_from table n) date_of (prev_from_numbered table n) date_of_numbered

moved_numbered : (r : DayAdjust) (t : Date) (n : ℕ) (table : List ℕ) → Numbered (moved_date r t n table)
unfolding modified_date
moved_numbered rule.None t n table = omega arith
moved_numbered rule.Following t n table = next_numbered table n
moved_numbered rule.Preceding t n table = prev_numbered table n
moved_numbered rule.Modified t n table =
    then_numbered (next_date table n) (λ u. pick (eqb u.month t.month) (given u) (prev_date table n)) (next_numbered table n)
    (λ u. pick_numbered (eqb u.month t.month) (given u) (prev_date table n) (omega arith) (prev_numbered table n))

pub adjusted_numbered : (r : DayAdjust) (t : Date) (table : List ℕ) → Numbered (adjusted r t table)
unfolding adjusted
adjusted_numbered r t table =
    pick_numbered (is_business table (day_number t)) (given t) (moved_date r t (day_number t) table) (omega arith) (moved_numbered r t (day_number t) table)

pub adjust_numbered : (r : DayAdjust) (t : Date) (table : List ℕ) → Numbered (adjust_date r t table)
unfolding adjust_date
adjust_numbered r t table =
    unless_numbered (is_date t) 1 _ (omega arith)
    (unless_numbered (is_table table) 13 _ (omega arith) (adjusted_numbered r t table))
