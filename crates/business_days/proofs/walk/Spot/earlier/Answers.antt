-- `Spot::earlier` meets its contract: the part lent is the table up to the last earlier holiday,
-- and over it the answer is that over the whole.
use Rattle.std.proofs.Common.{◌∙◌}
use Rattle.business_days.proofs.walk.Parts.{earlier_part}
use Rattle.business_days.proofs.walk.Spot.earlier.Goals as goal

pub returns : goal.returns
returns c = c.walk_back.ensures ∙ earlier_part _ _ _ c.args.self.placed c.args.k
