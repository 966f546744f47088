-- `packed_read::first_places` meets its contract: four bits are one place.
use Prim.Native.Nat.{ℕ, ◌/◌}
use mathlib.Core.Path.{ap}
use Rattle.packed_read.proofs.note.Codes.{four_bits}
use Rattle.packed_read.proofs.note.first_places.Goals as goal

pub returns : goal.returns
returns c = ap (λ (m : ℕ). c.args.digits / m) (four_bits c.args.k c.requires)
