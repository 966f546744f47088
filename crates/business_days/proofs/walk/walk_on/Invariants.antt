use Rattle.business_days.proofs.walk.Walks.{Onward}
use Rattle.business_days.proofs.walk.walk_on.Given as goal

abbrev pub invariant-loop-at : goal.invariant-loop-at
invariant-loop-at l = Onward l.part l.k l.n l.at l.left l.i l.holiday
