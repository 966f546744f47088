use Prim.Native.Nat.{◌+◌, ◌≤◌}
use mathlib.Core.Path.{◌≡◌}
use lib.ListN.{length, drop}
use lib.Dec.{leb}
use Rattle.outcome.specs.Outcome.{both}
use Rattle.business_days.specs.table.Table.{ascends_from, ascending}
use Rattle.business_days.proofs.table.is_ascending.Given as goal

abbrev pub invariant-loop-day : goal.invariant-loop-day
invariant-loop-day l = (l.day-index ≤ length l.table) × (ascending l.table ≡ both l.good (both (leb l.last 3652059) (ascends_from (l.last + 1) (drop l.day-index l.table))))
