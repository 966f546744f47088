-- `calendar::common_before_month` meets its contract: from March on the months follow one rule.
use native.Mathlib.Omega.{arith}
use Rattle.calendar.proofs.gregorian.Months.{common_early, common_late}
use Rattle.calendar.proofs.gregorian.common_before_month.Goals as goal

pub returns-then-month-gt2 : goal.returns-then-month-gt2
returns-then-month-gt2 c = common_late _ c.if-month-gt2.true (omega arith)

pub returns-else-month-gt2 : goal.returns-else-month-gt2
returns-else-month-gt2 c = common_early _ c.requires.0 (omega arith)
