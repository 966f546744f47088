-- `time_period::judged_step` meets its contract: a table that is taken was judged.
use mathlib.Core.Path.{◌∙◌, sym, ap}
use Rattle.time_period.specs.steps.Steps.{lent}
use Rattle.time_period.specs.added.Added.{judged_step}
use Rattle.time_period.proofs.added.Judging.{no_table}
use Rattle.time_period.proofs.added.judged_step.Goals as goal

pub returns-in_default : goal.returns-in_default
returns-in_default c = c.step_over.ensures ∙ no_table c.args.p c.args.t ∙ ap (λ o. judged_step c.args.p (lent o) c.args.t) (sym c.in_default.is)
