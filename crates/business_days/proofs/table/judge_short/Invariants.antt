use Prim.Native.Nat.{◌+◌, ◌≤◌}
use mathlib.Core.Path.{◌≡◌}
use lib.ListN.{drop}
use lib.Dec.{eqb, leb}
use Rattle.outcome.specs.Outcome.{both}
use Rattle.outcome.proofs.Lists.{Passed}
use Rattle.business_days.specs.table.Table.{ascends_from, ascending}
use Rattle.business_days.proofs.table.Counted.{is_below}
use Rattle.business_days.proofs.table.judge_short.Given as goal

abbrev pub invariant-loop-at : goal.invariant-loop-at
invariant-loop-at l = Passed (is_below l.n) l.table l.at-index l.before × (l.wrong ≤ l.at-index) × (ascending l.table ≡ both (eqb l.wrong 0) (both (leb l.last 3652059) (ascends_from (l.last + 1) (drop l.at-index l.table))))
