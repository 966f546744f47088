-- `Holidays::place_of` meets its contract: the place lies between two bounds, and each turn halves
-- what is between.
use Rattle.business_days.proofs.table.Places.{bracket_whole}
use Rattle.business_days.proofs.table.Holidays.place_of.Goals as goal

pub loop-lo-init : goal.loop-lo-init
loop-lo-init c = bracket_whole _ _ c.args.self.ascend
