-- `judged_spot` meets its contract: a day that is judged is one of the calendar.
use Rattle.std.proofs.Common.{sym, ◌∙◌}
use Rattle.calendar.proofs.dates.Dates.{day-yes}
use Rattle.business_days.proofs.days.judged_spot.Goals as goal

pub judged-requires : goal.judged-requires
judged-requires c = day-yes _ (sym c.is_day.ensures ∙ c.if-not-is_day.false)
