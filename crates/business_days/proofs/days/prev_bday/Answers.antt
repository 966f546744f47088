-- `business_days::prev_bday` meets its contract: one step back, judged in the same order.
use mathlib.Core.Path.{◌∙◌, ap}
use Rattle.outcome.specs.Outcome.{Outcome}
use Rattle.calendar.specs.declared.dates.Day.{Day}
use Rattle.business_days.specs.days.Answers.{judged, prev_bday, bdays_earlier}
use Rattle.business_days.specs.table.Business.{prev_from}
use Rattle.business_days.proofs.table.Steps.{one-step}
use Rattle.business_days.proofs.days.prev_bday.Goals as goal

pub returns : goal.returns
unfolding bdays_earlier prev_bday
returns c =
    let s = c.args in
    c.bdays_earlier.ensures ∙ ap (λ (o : Outcome Day). judged s.d s.table.now o) (one-step (prev_from s.table.now) s.d.0)
