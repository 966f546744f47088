-- The answers of writing a note: 18 for its period, the note's refusals, or what is written.
use Rattle.outcome.specs.declared.Refusal.TheVariants.{MalformedRecord}
use Rattle.std.specs.Prelude.{Result, Err}
use Rattle.std.specs.Result.{IsErrAnd}
use Rattle.outcome.proofs.Refusals.{refused_on}
use Prim.Native.Nat.{ℕ}
use mathlib.Core.Path.{◌≡◌, sym, ap, ◌∙◌}
use mathlib.Core.Bool.{Bool, true, false}
use mathlib.Core.List.{List}
use lib.IntN.{pos}
use lib.Signed.{le_z}
use Rattle.outcome.specs.Outcome.{given, refused}
use Rattle.outcome.specs.Refusals.{outcome_of, number_of}
use Rattle.outcome.specs.declared.Refusal.{Refusal}
use Rattle.number_text.specs.write.Writing.{Written}
use Rattle.number_text.proofs.write.Shown.{writes_none}
use Rattle.business_days.specs.table.Table.{is_table}
use Rattle.bond.specs.note.Notes.{note_checks}
use Rattle.bond.specs.declared.note.Note.{Note}
use Rattle.bond.proofs.note.Ends.{passed}
use Rattle.packed_write.specs.numbers.Packable.{Packable}
use Rattle.packed_write.specs.packed.Fields.{record_bytes}
use Rattle.packed_write.specs.packed.Writing.{packed_note, WritePromise}

-- the checks give the note that was judged
pub note_packable : (n : Note) (table : List ℕ) → le_z n.period.num (pos 4095) ≡ true → (t : Bool) (m : Note) → t ≡ is_table table → note_checks true t n ≡ given m → (Packable n) × (is_table table ≡ true)
note_packable n table h t m e f =
    let p = passed true t n m f in
    ((h, ap (λ (b : Bool). note_checks true b n) (sym p.table_taken) ∙ f ∙ ap given (sym p.itself)), sym e ∙ p.table_taken)

module _ (n : Note) (table d : List ℕ) where
  pub period_refused : le_z n.period.num (pos 4095) ≡ false → WritePromise n table d d (Err MalformedRecord)
  unfolding packed_note
  period_refused h = writes_none (packed_note n table) d 18 (rw (h))

  module _ (h : le_z n.period.num (pos 4095) ≡ true) where
    pub note_refused : (t : Bool) (r : Result ℕ Refusal) (k : Refusal) → IsErrAnd r (λ j. j ≡ k) → t ≡ is_table table → note_checks true t n ≡ refused (number_of k) → WritePromise n table d d r
    unfolding packed_note
    note_refused t r k g e f = rw (refused_on r k g) (writes_none (packed_note n table) d (number_of k) (rw (h, ← e, f)))

    pub note_written : (e : List ℕ) (r : Result ℕ Refusal) → (Packable n) × (is_table table ≡ true) → Written d e (record_bytes n table) (outcome_of r) → WritePromise n table d e r
    unfolding packed_note
    note_written e r p w = rw (h, p.1, p.0.1) w
