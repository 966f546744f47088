-- `reaches` meets its contract: every month has 28 days, and past them its length decides.
use Rattle.std.proofs.Common.{sym, ◌∙◌, le-leb, arith}
use Rattle.calendar.specs.gregorian.Gregorian.{month_length}
use Rattle.calendar.proofs.gregorian.Months.{at_least}
use Rattle.day_adjust.proofs.reaches.Goals as goal

pub returns-then-day-le28 : goal.returns-then-day-le28
returns-then-day-le28 c =
    let a = c.args in
    le-leb a.day 28 c.if-day-le28.true ∙ sym (le-leb a.day (month_length a.year a.month) (omega (arith, at_least a.year a.month c.requires.0 c.requires.1)))
