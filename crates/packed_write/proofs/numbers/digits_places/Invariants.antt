use Prim.Native.Nat.{◌-◌, ◌/◌, ◌^◌}
use mathlib.Core.Path.{◌≡◌}
use Rattle.packed_write.specs.numbers.Codes.{digits_places}
use Rattle.packed_write.proofs.numbers.digits_places.Given as goal

abbrev pub invariant-loop-k : goal.invariant-loop-k
invariant-loop-k l = l.places ≡ digits_places l.count l.k (l.digits / 10 ^ (l.count - l.k))
