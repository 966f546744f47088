use Prim.Native.Nat.{◌-◌, ◌≤◌}
use mathlib.Core.Path.{◌≡◌}
use Rattle.business_days.specs.table.Table.{ascends_from}
use Rattle.outcome.proofs.Filling.{Filled}
use Rattle.packed_read.specs.table.Tables.{days_from}
use Rattle.packed_read.proofs.table.read_days.Given as goal

abbrev pub invariant-loop-i : goal.invariant-loop-i
invariant-loop-i l = (l.low ≤ 3652060) × (ascends_from l.low (days_from l.s l.i (l.n - l.i)) ≡ ascends_from 1 (days_from l.s 0 l.n)) × Filled (days_from l.s 0 l.n) l.initial.days l.i (days_from l.s l.i (l.n - l.i)) l.days
