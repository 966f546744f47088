use Rattle.business_days.proofs.walk.Walks.{Backward}
use Rattle.business_days.proofs.walk.walk_back.Given as goal

abbrev pub invariant-loop-at : goal.invariant-loop-at
invariant-loop-at l = Backward l.part l.k l.n l.at l.left l.i l.holiday
