-- `day_of_date` meets its contract: a year that begins in March counts its days by one rule.
use Rattle.std.proofs.Common.{arith, refl}
use Rattle.calendar.proofs.dates.Dates.{IsDate, date-yes, number-to, number-from}
use Rattle.calendar.proofs.convert.March.{Counted, counted_late, counted_early, less_306}
use Rattle.calendar.proofs.convert.day_of_date.Goals as goal
use Rattle.calendar.proofs.convert.day_of_date.Goals.{then-t-lt3, else-t-lt3}
use Rattle.calendar.proofs.convert.day_of_date.Goals.{Start, Joined-t-lt3}

dated : (c : Start) → IsDate c.args.t
dated c = date-yes c.args.t c.requires

counted : (c : Joined-t-lt3) → Counted c.args.t c.if-t-lt3.year.0 c.if-t-lt3.year.1
counted c =
    let d : IsDate c.args.t = date-yes c.args.t c.requires in
    elim c.if-t-lt3.branch [
      | then-t-lt3 w ↦ rw w.year-is (counted_early c.args.t _ _ d w.if-t-lt3.true refl refl)
      | else-t-lt3 w ↦ rw w.year-is (counted_late c.args.t _ _ d w.if-t-lt3.false refl refl)
    ]

pub overflow_sub-year : goal.overflow_sub-year
overflow_sub-year c = (date-yes c.args.t c.requires).year_from

pub from_march-requires : goal.from_march-requires
from_march-requires c = let k = counted c in (k.year_to, k.from, k.to)

pub overflow_add-result : goal.overflow_add-result
overflow_add-result c = record { fits = omega (arith, number-to c.args.t (date-yes c.args.t c.requires), (counted c.before.before).sum, c.from_march.ensures) }

pub overflow_sub-result : goal.overflow_sub-result
overflow_sub-result c = omega (arith, number-from c.args.t (date-yes c.args.t c.requires), (counted c.before.before).sum, c.from_march.ensures)

pub returns : goal.returns
returns c = less_306 c.args.t.day c.from_march.ensures (counted c.before.before).sum
