-- `Spot::judged` meets its contract: a table that is taken ascends.
use Rattle.business_days.proofs.table.Table.{table_ascends}
use Rattle.business_days.proofs.walk.Spot.judged.Goals as goal

pub invariant_of-result : goal.invariant_of-result
invariant_of-result c = record { ascend = table_ascends _ c.in_ok-place.ensures.0 }
