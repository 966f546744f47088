use Rattle.packed_read.specs.note.Codes.{digits_number}
use Prim.Native.Nat.{◌-◌, ◌/◌, ◌^◌}
use mathlib.Core.Path.{◌≡◌}
use Rattle.packed_read.proofs.note.digits_number.Given as goal

abbrev pub invariant-loop-k : goal.invariant-loop-k
invariant-loop-k l = l.number ≡ digits_number l.count l.k (l.digits / 16 ^ (10 - l.k))
