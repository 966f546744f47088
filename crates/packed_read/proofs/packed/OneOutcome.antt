-- No second answer and no other places satisfy the promise; and a refusal's number is never 0.
use Rattle.std.specs.Prelude.{Result}
use Rattle.packed_read.specs.declared.packed.PackedNote.{PackedNote}
use Prim.Native.Nat.{ℕ}
use mathlib.Core.Path.{◌≡◌, sym, ◌∙◌}
use mathlib.Core.List.{List}
use native.Mathlib.Omega.{arith}
use lib.Dec.{leb}
use lib.ListN.{length}
use Rattle.outcome.specs.Outcome.{Numbered}
use Rattle.outcome.specs.declared.Refusal.{Refusal}
use Rattle.outcome.proofs.Outcomes.{unless_numbered, then_numbered}
use Rattle.outcome.proofs.Refusals.{same_result}
use Rattle.packed_layout.specs.NoteLayout.{note_numbers}
use Rattle.packed_read.proofs.note.OneOutcome.{note_numbered}
use Rattle.packed_read.specs.table.Tables.{is_whole, is_table_in}
use Rattle.packed_read.specs.packed.Notes.{note_in_bytes, unpacked, read_into, ReadNotePromise}

-- the answer and the places
pub one_read : (s old new other : List ℕ) (r t : Result PackedNote Refusal) → ReadNotePromise s old new r → ReadNotePromise s old other t → (r ≡ t) × (new ≡ other)
one_read s old new other r t p q = (same_result r t (p.answer ∙ sym q.answer), p.places ∙ sym q.places)

bytes_numbered : (s : List ℕ) → Numbered (note_in_bytes s)
unfolding note_in_bytes
bytes_numbered s = unless_numbered (is_whole s) 18 _ (omega arith) (note_numbered (is_table_in s) (note_numbers s))

pub read_numbered : (places : ℕ) (s : List ℕ) → Numbered (read_into places s)
unfolding read_into unpacked
read_numbered places s =
    then_numbered (unpacked s) _ (then_numbered (note_in_bytes s) _ (bytes_numbered s) (λ n. omega arith))
    (λ p. unless_numbered (leb (length p.days) places) 16 _ (omega arith) (omega arith))
