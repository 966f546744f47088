use Prim.Native.Nat.{◌*◌}
use mathlib.Core.List.{map}
use lib.ListN.{take}
use Rattle.bit_fields.specs.Bits.{in_bits}
use Rattle.bit_fields.specs.BitWriters.{FieldsPut}
use Rattle.packed_write.proofs.packed.put_days.Given as goal

abbrev pub invariant-loop-day : goal.invariant-loop-day
invariant-loop-day l = FieldsPut l.initial.writer l.writer (22 * l.day-index) (map (in_bits 22) (take l.day-index l.table))
