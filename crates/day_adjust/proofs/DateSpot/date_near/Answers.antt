-- `DateSpot::date_near` meets its contract: laws of Near.
use Rattle.std.proofs.Common.{sym, ◌∙◌, leb-true, arith}
use Rattle.calendar.proofs.dates.Dates.{date-yes}
use Rattle.calendar.proofs.gregorian.Months.{at_most}
use Rattle.day_adjust.proofs.Near.{month_on, month_back}
use Rattle.day_adjust.proofs.DateSpot.date_near.Goals as goal

pub returns-then-back-t : goal.returns-then-back-t
returns-then-back-t c = let s = c.args.self in month_back s.date s.spot.day _ s.exists s.own c.if-at-n.true c.if-back-t.true

pub overflow_add-day : goal.overflow_add-day
overflow_add-day c =
    let t = c.args.self.date in
    record { fits = omega (arith, (date-yes t c.args.self.exists).day-to, at_most t.year t.month) }

pub reaches-requires : goal.reaches-requires
reaches-requires c = let d = date-yes _ c.args.self.exists in (d.month_from, d.month_to)

pub returns-then-reaches : goal.returns-then-reaches
returns-then-reaches c = let s = c.args.self in month_on s.date s.spot.day _ s.exists s.own c.if-at-n.false (leb-true _ _ (sym c.reaches.ensures ∙ c.if-reaches.true))
