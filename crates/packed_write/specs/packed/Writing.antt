-- A packed note and its table as bytes, and what is refused.
use Rattle.std.specs.Prelude.{ℕ, true, List, pos, Result}
use Rattle.outcome.specs.declared.Refusal.{Refusal}
use Rattle.std.specs.Int.Signed.{le_z}
use Rattle.outcome.specs.Outcome.{Outcome, given, unless, and_then}
use Rattle.number_text.specs.write.Writing.{Writes}
use Rattle.business_days.specs.table.Table.{is_table}
use Rattle.bond.specs.note.Notes.{note_checks}
use Rattle.bond.specs.declared.note.Note.{Note}
use Rattle.packed_write.specs.packed.Fields.{record_bytes}

-- 18 for a coupon period above 4,095, which 12 bits do not hold; then the note's checks in their
-- order, 13 for the table
unfoldable pub packed_note : Note → List ℕ → Outcome (List ℕ)
packed_note n table =
    unless (le_z n.period.num (pos 4095)) 18
    (and_then (note_checks true (is_table table) n) (λ m. given (record_bytes m table)))

-- what the entry point promises of the old and the new bytes and its answer r
abbrev pub WritePromise : Note → List ℕ → List ℕ → List ℕ → Result ℕ Refusal → Type 0
WritePromise n table old new r = Writes (packed_note n table) old new r
