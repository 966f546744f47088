use lib.ListN.{take}
use Rattle.bit_fields.specs.BitWriters.{FieldsPut}
use Rattle.packed_layout.specs.Layouts.{position}
use Rattle.packed_layout.specs.NoteLayout.{note_widths, note_fields}
use Rattle.packed_layout.proofs.put_numbers.Given as goal

abbrev pub invariant-loop-k : goal.invariant-loop-k
invariant-loop-k l = FieldsPut l.initial.writer l.writer (position note_widths l.k) (take l.k (note_fields l.numbers.fields))
