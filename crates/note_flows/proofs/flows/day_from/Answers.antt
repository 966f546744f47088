-- `note_flows::day_from` meets its contract: the same date has the same day.
use mathlib.Core.Path.{sym, ◌∙◌, ap}
use Rattle.calendar.specs.dates.Dates.{day_number}
use Rattle.calendar.proofs.dates.Compared.{same_by_equal}
use Rattle.calendar.proofs.dates.Order.{same-yes}
use Rattle.note_flows.proofs.flows.day_from.Goals as goal

pub returns-then-eq : goal.returns-then-eq
returns-then-eq c = c.requires.1 ∙ ap day_number (sym (same-yes c.args.u c.args.t (sym (same_by_equal _ _ _ c.eq.ensures) ∙ c.if-eq.true)))
