-- No second outcome meets the promise: it fixes the answer and the bytes. A refusal's number is
-- never 0, and it leaves the bytes as they were.
use Rattle.outcome.specs.Refusals.{number_of}
use Rattle.std.specs.Prelude.{Result, Err}
use Prim.Native.Nat.{ℕ}
use mathlib.Core.Path.{◌≡◌, sym, ◌∙◌}
use mathlib.Core.Bool.{true}
use mathlib.Core.List.{List}
use native.Mathlib.Omega.{arith}
use lib.IntN.{pos}
use lib.Signed.{le_z}
use Rattle.outcome.specs.Outcome.{given, and_then, Numbered}
use Rattle.outcome.specs.declared.Refusal.{Refusal}
use Rattle.outcome.proofs.Outcomes.{unless_numbered, then_numbered}
use Rattle.number_text.specs.write.Writing.{written_length}
use Rattle.number_text.proofs.write.OneOutcome.{one_writes}
use Rattle.number_text.proofs.write.Shown.{writes_numbered, refused-kept}
use Rattle.business_days.specs.table.Table.{is_table}
use Rattle.bond.specs.note.Notes.{note_checks}
use Rattle.bond.specs.declared.note.Note.{Note}
use Rattle.bond.proofs.note.OneOutcome.{checks_numbered}
use Rattle.packed_write.specs.packed.Fields.{record_bytes}
use Rattle.packed_write.specs.packed.Writing.{packed_note, WritePromise}

pub one_write : (n : Note) (table old d e : List ℕ) (r s : Result ℕ Refusal) → WritePromise n table old d r → WritePromise n table old e s → (r ≡ s) × (d ≡ e)
one_write n table old d e r s p q = one_writes (packed_note n table) old d e r s p q

packed_numbered : (n : Note) (table : List ℕ) → Numbered (packed_note n table)
unfolding packed_note
packed_numbered n table =
    unless_numbered (le_z n.period.num (pos 4095)) 18 _ (omega arith)
    (then_numbered (note_checks true (is_table table) n) (λ m. given (record_bytes m table)) (checks_numbered true (is_table table) n) (λ m. omega arith))

pub write_numbered : (n : Note) (table old : List ℕ) → Numbered (and_then (packed_note n table) (written_length old))
write_numbered n table old = writes_numbered (packed_note n table) old (packed_numbered n table)

-- a refusal keeps every byte
pub refused_keeps : (n : Note) (table old new : List ℕ) (k : Refusal) → WritePromise n table old new (Err k) → new ≡ old
refused_keeps n table old new k p = p.1 ∙ refused-kept (packed_note n table) old (number_of k) (sym p.0)
