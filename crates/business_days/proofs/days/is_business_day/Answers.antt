-- `is_business_day` meets its contract: the day and the table are judged in the order of the
-- refusals, and then the question is put.
use Rattle.std.proofs.Common.{sym, ◌∙◌, ap}
use Rattle.outcome.specs.Outcome.{given}
use Rattle.outcome.proofs.Refusals.{refused_on}
use Rattle.business_days.specs.days.Answers.{is_business_day}
use Rattle.business_days.proofs.days.Judging.{judged_on}
use Rattle.business_days.proofs.days.is_business_day.Goals as goal

pub returns-in_err-spot : goal.returns-in_err-spot
unfolding is_business_day
returns-in_err-spot c = refused_on _ _ c.from_residual.ensures.1 ∙ judged_on _ _ _ _ _ c.in_err-spot.ensures

pub returns : goal.returns
unfolding is_business_day
returns c = let x = c.in_ok-spot.ensures in rw (x.0, x.1, sym x.2, sym x.3) (ap given c.is_business.ensures)
