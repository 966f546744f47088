-- `packed_write::place_at` meets its contract: a power of ten is not 0.
use native.Mathlib.Nat.{one-le-pow}
use native.Mathlib.Omega.{arith}
use Rattle.packed_write.proofs.numbers.place_at.Goals as goal

pub nonzero_div-result : goal.nonzero_div-result
nonzero_div-result c = rw c.pow.ensures (one-le-pow _ 10 (omega arith))
