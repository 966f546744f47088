-- What is read without a refusal writes back.
use Prim.Native.Nat.{ℕ, ◌+◌, ◌-◌, ◌*◌, ◌/◌, ◌<◌}
use mathlib.Core.Path.{◌≡◌, refl, sym, ap, subst, ◌∙◌}
use mathlib.Core.Bool.{Bool, true}
use mathlib.Core.List.{List, ◌++◌, append_assoc, append-nil}
use native.Mathlib.Omega.{arith}
use borrow.Author.Tests.{le-leb, eqb-true}
use lib.Dec.{leb}
use lib.ListN.{length, drop}
use lib.Seq.{drop-length}
use lib.IntN.{pos}
use lib.Signed.{le_z}
use Rattle.outcome.specs.Outcome.{given}
use Rattle.outcome.proofs.Outcomes.{given_injective, both_true, unless-given, then_given}
use Rattle.bit_fields.specs.Bits.{Field, field_bits, fields_bits, bits_of, bytes_of, field, AreBytes}
use Rattle.bit_fields.proofs.Bits.{fields_append, length-bits, field_at, bytes_back}
use Rattle.business_days.specs.table.Table.{is_table}
use Rattle.bond.specs.declared.note.Note.{Note}
use Rattle.packed_layout.specs.NoteLayout.{Name, number_in, note_widths, note_numbers, note_fields, NumbersFit, table_fields, bit_length, byte_length}
use Rattle.packed_layout.proofs.Layouts.{length_numbers, read_fit, put_read}
use Rattle.packed_read.specs.note.Records.{note_from}
use Rattle.packed_read.specs.table.Tables.{table_count, table_days, is_whole, is_table_in}
use Rattle.packed_read.proofs.table.Tables.{whole_long, whole_length, length-days, exact}
use Rattle.packed_read.specs.packed.Notes.{note_in_bytes, Unpacked, unpacked}
use Rattle.packed_read.proofs.packed.Reading.{bytes-given, few_days}
use Rattle.packed_write.specs.numbers.Numbers.{numbers_of}
use Rattle.packed_write.specs.packed.Fields.{zeros_behind, whole_bytes, numbers_bytes}
use Rattle.packed_write.specs.packed.Writing.{packed_note}
use Rattle.packed_write.proofs.packed.Fields.{length_record}
use Rattle.packed_round_trips.proofs.Tables.{table-put}
use Rattle.packed_round_trips.proofs.Notes.{numbers_back, note_passes, period_number}
use Rattle.packed_round_trips.proofs.Written.{zeros_left}

-- ---- bytes that are whole, and whose table is taken, are their fields

module _ (s : List ℕ) (w : is_whole s ≡ true) (t : is_table_in s ≡ true) where
  long : length s ≡ byte_length (table_count s)
  long = whole_length s w (few_days s t)

  counted : length (table_days s) ≡ table_count s
  counted = length-days s 0 (table_count s)

  -- the bits behind the last day
  spare-zero : field s (bit_length (table_count s)) (length s * 8 - bit_length (table_count s)) ≡ 0
  spare-zero = eqb-true (field s (bit_length (table_count s)) (length s * 8 - bit_length (table_count s))) 0 (exact s (table_count s) (field s (bit_length (table_count s)) (length s * 8 - bit_length (table_count s))) refl (whole_long s w) (few_days s t) long refl ∙ w)

  spare-bits : drop (bit_length (table_count s)) (bits_of s) ≡ field_bits (length s * 8 - bit_length (table_count s)) 0
  spare-bits =
      let at : ℕ = bit_length (table_count s) in
      let z : ℕ = length s * 8 - at in
      let end : at + z ≡ length (bits_of s) = omega (arith, length-bits s, long) in
      field_at s at z (omega (arith, long))
      ∙ ap (λ (x : ℕ). field_bits z x ++ drop (at + z) (bits_of s)) spare-zero
      ∙ ap (λ (r : List ℕ). field_bits z 0 ++ r) (ap (λ (k : ℕ). drop k (bits_of s)) end ∙ drop-length (bits_of s))
      ∙ append-nil (field_bits z 0)

  module _ (ns : List ℕ) (e : ns ≡ note_numbers s) where
    abbrev fields : List Field
    fields = note_fields ns ++ table_fields (table_days s)

    bits_are : bits_of s ≡ fields_bits fields ++ field_bits (zeros_behind (length (fields_bits fields))) 0
    bits_are =
        let note : List ℕ = fields_bits (note_fields ns) in
        let table : List ℕ = fields_bits (table_fields (table_days s)) in
        let z : zeros_behind (length (fields_bits fields)) ≡ length s * 8 - bit_length (table_count s) = zeros_left (length (fields_bits fields)) (length s) (bit_length (table_count s)) (length_record ns (table_days s) ∙ ap bit_length counted) long in
        put_read s 0 0 note_widths ns e (omega (arith, long))
        ∙ ap (λ (x : List ℕ). note ++ x) (table-put s (omega (arith, long)) ∙ ap (λ (x : List ℕ). table ++ x) (spare-bits ∙ ap (λ (k : ℕ). field_bits k 0) (sym z)))
        ∙ sym (append_assoc note table (field_bits (zeros_behind (length (fields_bits fields))) 0))
        ∙ ap (λ (x : List ℕ). x ++ field_bits (zeros_behind (length (fields_bits fields))) 0) (sym (fields_append (note_fields ns) (table_fields (table_days s))))

    pub writes_same : AreBytes s → numbers_bytes ns (table_days s) ≡ s
    unfolding numbers_bytes whole_bytes
    writes_same a =
        let k : (length (fields_bits fields) + 7) / 8 ≡ length s = omega (arith, length_record ns (table_days s), counted, long) in
        ap (bytes_of ((length (fields_bits fields) + 7) / 8)) (sym bits_are) ∙ ap (λ (j : ℕ). bytes_of j (bits_of s)) k ∙ bytes_back s a

-- ---- the note and the table that were read

twelve_bits : (m : ℕ) → m < 4096 → le_z (pos m) (pos 4095) ≡ true
twelve_bits m h = le-leb m 4095 (omega arith)

table_kept : (s : List ℕ) → is_table_in s ≡ true → is_table (table_days s) ≡ true
unfolding is_table_in
table_kept s e = (both_true (leb (table_count s) 4096) (is_table (table_days s)) e).1

module _ (s : List ℕ) (n : Note) (a : AreBytes s) (e : note_in_bytes s ≡ given n) where
  judged : (is_whole s ≡ true) × (is_table_in s ≡ true)
  judged = bytes-given s n e

  note_was : note_from true (note_numbers s) ≡ given n
  unfolding note_in_bytes
  note_was = ap (λ (b : Bool). note_from b (note_numbers s)) (sym judged.1) ∙ (unless-given (is_whole s) 18 (note_from (is_table_in s) (note_numbers s)) n e).1

  narrow : NumbersFit (note_numbers s)
  narrow = read_fit s 0 0 note_widths (note_numbers s) refl (omega (arith, whole_long s judged.0))

  same_numbers : numbers_of n ≡ note_numbers s
  same_numbers = numbers_back (note_numbers s) n note_was (length_numbers s 0 note_widths) narrow

  period_narrow : le_z n.period.num (pos 4095) ≡ true
  period_narrow = rw (period_number (note_numbers s) n note_was) (twelve_bits (number_in (note_numbers s) Name.number) (let f = narrow in omega arith))

  pub note_writes : packed_note n (table_days s) ≡ given s
  unfolding packed_note
  note_writes =
      rw (period_narrow, table_kept s judged.1, note_passes (note_numbers s) n note_was) (ap given (writes_same s judged.0 judged.1 (numbers_of n) same_numbers a))

pub writes_back : (s : List ℕ) (p : Unpacked) → AreBytes s → unpacked s ≡ given p → packed_note p.note p.days ≡ given s
unfolding unpacked
writes_back s p a e =
    let b = then_given (note_in_bytes s) (λ n. given (record { note = n; days = table_days s })) p e in
    let q : record { note = b.0; days = table_days s } ≡ p = given_injective b.2 in
    subst (λ (x : Unpacked). packed_note x.note x.days ≡ given s) q (note_writes s b.0 a b.1)
