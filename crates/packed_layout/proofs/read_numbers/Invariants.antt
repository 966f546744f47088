use mathlib.Core.Path.{◌≡◌}
use lib.ListN.{drop}
use Rattle.outcome.proofs.Filling.{Filled}
use Rattle.packed_layout.specs.Layouts.{position, numbers_from}
use Rattle.packed_layout.specs.NoteLayout.{note_widths, note_numbers}
use Rattle.packed_layout.proofs.read_numbers.Given as goal

abbrev pub invariant-loop-k : goal.invariant-loop-k
invariant-loop-k l = (l.at ≡ position note_widths l.k) × (Filled (note_numbers l.s) l.initial.fields l.k (numbers_from l.s l.at (drop l.k note_widths)) l.fields)
