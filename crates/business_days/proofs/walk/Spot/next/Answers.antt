-- `Spot::next` meets its contract: it is one step.
use Rattle.std.proofs.Common.{◌∙◌}
use Rattle.business_days.specs.table.Business.{next_from}
use Rattle.business_days.proofs.table.Steps.{one-step}
use Rattle.business_days.proofs.walk.Spot.next.Goals as goal

pub returns : goal.returns
returns c = c.later.ensures ∙ one-step (next_from c.args.self.holidays.days.now) c.args.self.day
