-- `is_date` meets its contract: each test is one of those of `is_date`, and every month has 28
-- days.
use Rattle.std.proofs.Common.{sym, ap, leb, le-leb, arith}
use Rattle.calendar.proofs.gregorian.Months.{at_least}
use Rattle.calendar.specs.dates.Dates.{is_date}
use Rattle.calendar.proofs.dates.Dates.{no_date, date_is}
use Rattle.calendar.proofs.dates.is_date.Goals as goal

pub returns-then-t-lt1 : goal.returns-then-t-lt1
returns-then-t-lt1 c = no_date c.args.t (λ h. grind (arith, h, c.then-t-lt1.either))

pub returns-then-t-le28 : goal.returns-then-t-le28
returns-then-t-le28 c =
    let t = c.args.t in
    rw (le-leb t.day 28 c.if-t-le28.true) (sym (date_is t (record { year_from = omega arith; year_to = omega arith; month_from = omega arith; month_to = omega arith; day-from = omega arith; day-to = omega (arith, at_least t.year t.month (omega arith) (omega arith)) })))

pub returns-else-t-le28 : goal.returns-else-t-le28
unfolding is_date
returns-else-t-le28 c =
    let t = c.args.t in
    simp (le-leb 1 t.year (omega arith), le-leb t.year 9999 (omega arith), le-leb 1 t.day (omega arith)) (ap (leb t.day) c.length_of_month.ensures)
