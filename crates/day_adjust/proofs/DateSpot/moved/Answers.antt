-- `DateSpot::moved` meets its contract: modified is the next date, unless its month differs.
use Rattle.std.proofs.Common.{sym, ◌∙◌, ap}
use Rattle.day_adjust.specs.Adjustment.{modified_date, moved_date}
use Rattle.day_adjust.specs.declared.DayAdjust.{DayAdjust}
use Rattle.day_adjust.proofs.DateSpot.moved.Goals as goal

pub returns-in-Modified : goal.returns-in-Modified
unfolding modified_date
returns-in-Modified c = let s = c.args.self in c.ahead-in-Modified.ensures ∙ ap (λ (r : DayAdjust). moved_date r s.date s.spot.day s.spot.holidays.days.now) (sym c.in-Modified.is)
