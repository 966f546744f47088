-- `packed_read::table_count` meets its contract: 16 bits are below 2^16.
use native.Mathlib.Omega.{arith}
use Rattle.bit_fields.proofs.Bits.{field_below}
use Rattle.packed_layout.specs.NoteLayout.{count_place}
use Rattle.packed_read.proofs.table.table_count.Goals as goal

pub returns : goal.returns
returns c =
    let e = rw c.note_bits.ensures at c.read_field.ensures in
    (e, rw (e) (field_below c.args.s.now count_place 16 (omega (arith, c.requires))))
