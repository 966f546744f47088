-- `business_days::next_bday` meets its contract: one step on, judged in the same order.
use mathlib.Core.Path.{◌∙◌, ap}
use Rattle.outcome.specs.Outcome.{Outcome}
use Rattle.calendar.specs.declared.dates.Day.{Day}
use Rattle.business_days.specs.days.Answers.{judged, next_bday, bdays_later}
use Rattle.business_days.specs.table.Business.{next_from}
use Rattle.business_days.proofs.table.Steps.{one-step}
use Rattle.business_days.proofs.days.next_bday.Goals as goal

pub returns : goal.returns
unfolding bdays_later next_bday
returns c =
    let s = c.args in
    c.bdays_later.ensures ∙ ap (λ (o : Outcome Day). judged s.d s.table.now o) (one-step (next_from s.table.now) s.d.0)
