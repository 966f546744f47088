-- `add_months` meets its contract: the date is judged, and the rest is that of one that exists.
use Rattle.std.proofs.Common.{◌∙◌, ap}
use mir.Facts.{to_z-of_z}
use Rattle.outcome.specs.Outcome.{Outcome, and_then}
use Rattle.outcome.proofs.Refusals.{handed_on}
use Rattle.calendar.specs.declared.dates.Date.{Date}
use Rattle.date_step.specs.Steps.{add_months, months_later}
use Rattle.date_step.proofs.Steps.{existing_gives, existing_then}
use Rattle.date_step.proofs.add_months.Goals as goal

pub months_later-requires : goal.months_later-requires
months_later-requires c = existing_gives _ _ c.in_ok-existing.ensures

pub returns : goal.returns
unfolding add_months
returns c =
    let next : Date → Outcome Date = λ t. months_later t c.args.n in
    c.months_later.ensures ∙ ap (months_later c.in_ok-existing.field-0) (to_z-of_z c.ranges.n) ∙ ap (λ (o : Outcome Date). and_then o next) c.in_ok-existing.ensures ∙ existing_then c.args.t next

pub returns-in_err-existing : goal.returns-in_err-existing
unfolding add_months
returns-in_err-existing c =
    let next : Date → Outcome Date = λ t. months_later t c.args.n in
    handed_on _ _ next c.from_residual.ensures.1 c.in_err-existing.ensures ∙ existing_then c.args.t next
