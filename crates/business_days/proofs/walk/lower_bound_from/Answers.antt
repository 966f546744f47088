-- `lower_bound_from` meets its contract: before the place all is before the day, and the place goes
-- on until it is not.
use Rattle.std.proofs.Common.{arith}
use Rattle.business_days.proofs.table.Places.{bracket_down, bracket_ends}
use Rattle.business_days.proofs.walk.Places.{bracket_near}
use Rattle.business_days.proofs.walk.lower_bound_from.Goals as goal

pub loop-place-init : goal.loop-place-init
loop-place-init c = bracket_near _ _ _ c.requires (omega arith) (omega (arith, c.holiday_before.ensures))

pub returns-else-table-place : goal.returns-else-table-place
returns-else-table-place c = bracket_ends (bracket_down c.loop-place.invariant _ (omega arith) c.loop-place-test.true (omega (arith, c.if-table-place.false))) (omega arith)
