-- `Spot::previous` meets its contract: it is one step.
use Rattle.std.proofs.Common.{◌∙◌}
use Rattle.business_days.specs.table.Business.{prev_from}
use Rattle.business_days.proofs.table.Steps.{one-step}
use Rattle.business_days.proofs.walk.Spot.previous.Goals as goal

pub returns : goal.returns
returns c = c.earlier.ensures ∙ one-step (prev_from c.args.self.holidays.days.now) c.args.self.day
