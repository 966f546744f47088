-- `in_month` meets its contract: the day is cut where the month is shorter.
use Rattle.std.proofs.Common.{ap, ℕ, ◌+◌, ◌/◌, ◌%◌, arith}
use Rattle.calendar.specs.dates.Dates.{month_date}
use Rattle.calendar.specs.declared.dates.Date.{Date}
use Rattle.calendar.proofs.gregorian.Months.{at_least}
use Rattle.date_step.proofs.in_month.Goals as goal

pub returns-then-day-le28 : goal.returns-then-day-le28
unfolding month_date
returns-then-day-le28 c =
    let a = c.args in
    ap {B = Date} (λ (d : ℕ). record { year = a.index / 12 + 1; month = a.index % 12 + 1; day = d }) (omega (arith, at_least (a.index / 12 + 1) (a.index % 12 + 1) (omega arith) (omega arith)))

pub returns : goal.returns
unfolding month_date
returns c =
    let a = c.args in
    ap {B = Date} (λ (d : ℕ). record { year = a.index / 12 + 1; month = a.index % 12 + 1; day = d }) (omega (arith, c.min-day.ensures, c.length_of_month.ensures))
