-- `bdays_later` meets its contract: the day and the table are judged in the order of the refusals, and
-- then the question is put.
use Rattle.std.proofs.Common.{sym, ◌∙◌}
use Rattle.outcome.proofs.Refusals.{refused_on}
use Rattle.business_days.specs.days.Answers.{bdays_later}
use Rattle.business_days.proofs.days.Judging.{judged_on}
use Rattle.business_days.proofs.days.bdays_later.Goals as goal

pub returns-in_err-judged_spot : goal.returns-in_err-judged_spot
unfolding bdays_later
returns-in_err-judged_spot c = refused_on _ _ c.from_residual.ensures.1 ∙ judged_on _ _ _ _ _ c.in_err-judged_spot.ensures

pub returns : goal.returns
unfolding bdays_later
returns c = let x = c.in_ok-judged_spot.ensures in rw (x.0, x.1, sym x.2, sym x.3) c.later.ensures
