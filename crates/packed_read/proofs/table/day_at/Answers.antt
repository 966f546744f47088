-- `packed_read::day_at` meets its contract: a day is below 2^22.
use native.Mathlib.Nat.{lt_of_lt_of_le}
use native.Mathlib.Omega.{arith}
use lib.Pow.{pow_mono}
use Rattle.bit_fields.proofs.Bits.{field_below}
use Rattle.packed_layout.specs.NoteLayout.{day_place}
use Rattle.packed_read.proofs.table.day_at.Goals as goal

pub overflow_cast-result : goal.overflow_cast-result
overflow_cast-result c =
    let e = rw c.record_bits.ensures at c.read_field.ensures in
    record { fits = rw (e) (lt_of_lt_of_le (field_below c.args.s.now (day_place c.args.i) 22 (omega (arith, c.requires.1))) (pow_mono {i = 22} {j = 32} (omega arith))) }
