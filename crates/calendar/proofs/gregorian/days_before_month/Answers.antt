-- `calendar::days_before_month` meets its contract: a leap year's months from March on begin a day
-- later.
use Prim.Native.Nat.{ℕ, ◌+◌}
use mathlib.Core.Bool.{false}
use mathlib.Core.Path.{sym, ◌∙◌, ap}
use native.Mathlib.Omega.{arith}
use Rattle.calendar.specs.gregorian.Gregorian.{length_in}
use Rattle.calendar.proofs.gregorian.Months.{before_early, before_late, before_common, length_most}
use Rattle.calendar.proofs.gregorian.Counting.{before-most}
use Rattle.calendar.proofs.gregorian.days_before_month.Goals as goal

pub returns-then-month-lt3 : goal.returns-then-month-lt3
returns-then-month-lt3 c = c.common_before_month-common.ensures ∙ before_early _ _ c.if-month-lt3.true

pub overflow_add-result : goal.overflow_add-result
overflow_add-result c = omega (arith, c.common_before_month-common.ensures, before-most (length_in false) 31 (length_most false) c.args.month)

pub returns-then-is_leap : goal.returns-then-is_leap
returns-then-is_leap c = ap (λ (x : ℕ). x + 1) c.common_before_month-common.ensures ∙ before_late _ _ (sym c.is_leap.ensures ∙ c.if-is_leap.true) (omega arith) (omega arith)

pub returns-else-is_leap : goal.returns-else-is_leap
returns-else-is_leap c = c.common_before_month-common.ensures ∙ before_common _ _ (sym c.is_leap.ensures ∙ c.if-is_leap.false)
