-- A note that is packed. For inner functions only: no entry point promises or asks it.
use Rattle.std.specs.Prelude.{◌≡◌, true, pos}
use Rattle.std.specs.Int.Signed.{le_z}
use Rattle.outcome.specs.Outcome.{given}
use Rattle.bond.specs.note.Notes.{note_checks}
use Rattle.bond.specs.declared.note.Note.{Note}

-- a note that is not refused
abbrev pub Packable : Note → Type 0
Packable n = (le_z n.period.num (pos 4095) ≡ true) × (note_checks true true n ≡ given n)
