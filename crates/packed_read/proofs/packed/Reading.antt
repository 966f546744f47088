-- What a note that is given says of its bytes; and the ways to answer.
use Rattle.std.specs.Prelude.{Result, Ok, Err}
use Rattle.std.specs.Result.{IsErrAnd}
use Rattle.outcome.proofs.Refusals.{refused_on}
use Rattle.packed_read.specs.declared.packed.PackedNote.{PackedNote}
use Rattle.outcome.specs.declared.Refusal.{Refusal}
use Rattle.outcome.specs.Refusals.{number_of}
use Rattle.outcome.specs.declared.Refusal.TheVariants.{TooFewPlaces}
use Prim.Native.Nat.{ℕ, ◌≤◌, ◌<◌}
use mathlib.Core.Path.{◌≡◌, sym, ap, ◌∙◌}
use mathlib.Core.Bool.{Bool, true, false}
use mathlib.Core.List.{List, ◌++◌}
use borrow.Author.Tests.{le-leb, lt-leb, leb-true}
use lib.Dec.{leb}
use lib.ListN.{length, take, drop}
use Rattle.outcome.specs.Outcome.{given, refused, unless}
use Rattle.outcome.proofs.Outcomes.{both_true, unless-given}
use Rattle.bond.specs.declared.note.Note.{Note}
use Rattle.packed_layout.specs.NoteLayout.{note_numbers}
use Rattle.packed_read.specs.note.Records.{note_from}
use Rattle.packed_read.proofs.note.Reading.{table-given}
use Rattle.packed_read.specs.table.Tables.{table_count, table_days, is_whole, is_table_in}
use Rattle.packed_read.proofs.table.Tables.{length-days}
use Rattle.packed_read.specs.packed.Notes.{note_in_bytes, unpacked, read_into, ReadNotePromise}

-- ---- a note is given: its bytes are whole, and its table is taken

pub bytes-given : (s : List ℕ) (n : Note) → note_in_bytes s ≡ given n → (is_whole s ≡ true) × (is_table_in s ≡ true)
unfolding note_in_bytes
bytes-given s n e =
    let a = unless-given (is_whole s) 18 (note_from (is_table_in s) (note_numbers s)) n e in
    (a.0, table-given (is_table_in s) (note_numbers s) n a.1)

pub few_days : (s : List ℕ) → is_table_in s ≡ true → table_count s ≤ 4096
unfolding is_table_in
few_days s e = leb-true (table_count s) 4096 (both_true (leb (table_count s) 4096) _ e).0

pub few_given : (s : List ℕ) (n : Note) → note_in_bytes s ≡ given n → table_count s ≤ 4096
few_given s n e = few_days s (bytes-given s n e).1

-- ---- the ways to answer

pub bytes_short : (s : List ℕ) → is_whole s ≡ false → refused 18 ≡ note_in_bytes s
unfolding note_in_bytes
bytes_short s e = rw (e)

pub bytes_whole : (s ns : List ℕ) (table : Bool) → is_whole s ≡ true → ns ≡ note_numbers s → table ≡ is_table_in s → note_from table ns ≡ note_in_bytes s
unfolding note_in_bytes
bytes_whole s ns table e f g = rw (e, f, g)

into_given : (s : List ℕ) (n : Note) (places : ℕ) → note_in_bytes s ≡ given n → read_into places s ≡ unless (leb (length (table_days s)) places) 16 (given (record { note = n; days = table_days s }))
unfolding read_into unpacked
into_given s n places e = rw (e)

into_refused : (s : List ℕ) (k places : ℕ) → note_in_bytes s ≡ refused k → read_into places s ≡ refused k
unfolding read_into unpacked
into_refused s k places e = rw (e)

pub reads_refused : (s old : List ℕ) (r : Result PackedNote Refusal) (k : Refusal) → IsErrAnd r (λ d. d ≡ k) → note_in_bytes s ≡ refused (number_of k) → ReadNotePromise s old old r
reads_refused s old r k h e =
    let all : read_into (length old) s ≡ refused (number_of k) = into_refused s (number_of k) (length old) e in
    record { answer = rw (all) (refused_on r k h); places = rw (all) }

module _ (s old : List ℕ) (n : Note) (m : ℕ) (e : note_in_bytes s ≡ given n) (f : m ≡ table_count s) where
  counted : length (table_days s) ≡ m
  counted = length-days s 0 (table_count s) ∙ sym f

  pub reads_short : length old < m → ReadNotePromise s old old (Err TooFewPlaces)
  reads_short h = record { answer = rw (short); places = rw (short) }
    where
      short : read_into (length old) s ≡ refused 16
      short = into_given s n (length old) e ∙ rw (lt-leb (length (table_days s)) (length old) (rw (counted) h))

  pub reads_all : (days new : List ℕ) → m ≤ length old → take (table_count s) days ≡ table_days s → new ≡ take m days ++ drop m old → ReadNotePromise s old new (Ok (record { note = n; holidays = m }))
  reads_all days new h d g = record { answer = rw (all, counted); places = rw (all, counted) (g ∙ ap (λ (k : ℕ). take k days ++ drop m old) f ∙ ap (λ (l : List ℕ). l ++ drop m old) d) }
    where
      all : read_into (length old) s ≡ given (record { note = n; days = table_days s })
      all = into_given s n (length old) e ∙ rw (le-leb (length (table_days s)) (length old) (rw (counted) h))
