use Rattle.std.proofs.Common.{length, ◌-◌}
use Rattle.business_days.proofs.table.Places.{Bracket}
use Rattle.business_days.proofs.walk.lower_bound_from.Given as goal

abbrev pub invariant-loop-place : goal.invariant-loop-place
invariant-loop-place l = Bracket l.table l.n l.place (length l.table)

abbrev pub decreases-loop-place : goal.decreases-loop-place
decreases-loop-place l = length l.table - l.place
