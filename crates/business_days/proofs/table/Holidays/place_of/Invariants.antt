use Rattle.std.proofs.Common.{◌-◌}
use Rattle.business_days.proofs.table.Places.{Bracket}
use Rattle.business_days.proofs.table.Holidays.place_of.Given as goal

abbrev pub invariant-loop-lo : goal.invariant-loop-lo
invariant-loop-lo l = Bracket l.days l.day l.lo l.hi

abbrev pub decreases-loop-lo : goal.decreases-loop-lo
decreases-loop-lo l = l.hi - l.lo
