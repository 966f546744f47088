use Rattle.packed_read.specs.note.Codes.{digits_good}
use Prim.Native.Nat.{◌-◌, ◌/◌, ◌^◌}
use mathlib.Core.Path.{◌≡◌}
use Rattle.packed_read.proofs.note.digits_good.Given as goal

abbrev pub invariant-loop-k : goal.invariant-loop-k
invariant-loop-k l = l.good ≡ digits_good l.count l.k (l.digits / 16 ^ (10 - l.k))
