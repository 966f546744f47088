-- A packed note and the table that follows it.
use Rattle.std.specs.Prelude.{ℕ, ◌≡◌, List, ◌++◌, leb, length, drop, Result}
use Rattle.outcome.specs.Outcome.{Outcome, given, refused, unless, and_then, passed_as}
use Rattle.outcome.specs.Refusals.{outcome_of}
use Rattle.outcome.specs.declared.Refusal.{Refusal}
use Rattle.bond.specs.declared.note.Note.{Note}
use Rattle.packed_layout.specs.NoteLayout.{note_numbers}
use Rattle.packed_read.specs.note.Records.{note_from}
use Rattle.packed_read.specs.table.Tables.{table_days, is_whole, is_table_in}
use Rattle.packed_read.specs.declared.packed.PackedNote.{PackedNote}

-- a note and its holidays
pub record Unpacked : Type 0 where
  pub note : Note
  pub days : List ℕ

-- what the bytes are: 18 for bytes missing or left over, then the note in its bits
unfoldable pub note_in_bytes : List ℕ → Outcome Note
note_in_bytes s = unless (is_whole s) 18 (note_from (is_table_in s) (note_numbers s))

unfoldable pub unpacked : List ℕ → Outcome Unpacked
unpacked s = and_then (note_in_bytes s) (λ n. given (record { note = n; days = table_days s }))

-- and last 16, where the lent places are fewer than the holidays
unfoldable pub read_into : ℕ → List ℕ → Outcome Unpacked
read_into places s = and_then (unpacked s) (λ p. unless (leb (length p.days) places) 16 (given p))

-- what it says of the note: the holidays are counted
abbrev pub counted_days : Outcome Unpacked → Outcome PackedNote
counted_days o = passed_as (λ p. record { note = p.note; holidays = length p.days }) o

-- the lent places afterwards: the holidays in front of what was there, or all that was there
abbrev pub days_after : Outcome Unpacked → List ℕ → List ℕ
days_after (given p) old = p.days ++ drop (length p.days) old
days_after (refused n) old = old

-- what the entry point promises of the bytes s, the old and the new places, and its answer r
pub record ReadNotePromise (s old new : List ℕ) (r : Result PackedNote Refusal) : Type 0 where
  pub answer : outcome_of r ≡ counted_days (read_into (length old) s)
  pub places : new ≡ days_after (read_into (length old) s) old
