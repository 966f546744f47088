-- What is written reads back.
use Prim.Native.Nat.{ℕ, zero, suc, ◌+◌, ◌-◌, ◌*◌, ◌/◌, ◌%◌}
use mathlib.Core.Path.{◌≡◌, refl, sym, ap, ◌∙◌}
use mathlib.Core.Bool.{true}
use mathlib.Core.List.{List, [], ◌∷◌, ◌++◌, append_assoc, append-nil, map}
use native.Mathlib.Omega.{arith}
use borrow.Author.Tests.{le-leb}
use lib.Dec.{leb}
use lib.ListN.{length}
use lib.IntN.{pos}
use lib.Signed.{le_z}
use lib.Pow.{pow_pos}
use Rattle.outcome.specs.Outcome.{given, and_then}
use Rattle.outcome.proofs.Outcomes.{given_injective, unless-given, then_given}
use Rattle.bit_fields.specs.Bits.{in_bits, field_bits, fields_bits, bits_of, field, AreBytes}
use Rattle.bit_fields.proofs.Bits.{fields_are, fields_append, length_fields, field_found}
use Rattle.business_days.specs.table.Table.{ascends_from, is_table}
use Rattle.business_days.proofs.table.Table.{ascends_cons, table_ascends, table-most}
use Rattle.bond.specs.note.Notes.{note_checks}
use Rattle.bond.specs.declared.note.Note.{Note}
use Rattle.bond.proofs.note.Ends.{passed}
use Rattle.packed_layout.specs.Layouts.{AllFit}
use Rattle.packed_layout.specs.NoteLayout.{note_widths, note_numbers, note_fields, NumbersFit, table_fields, bit_length}
use Rattle.packed_layout.proofs.Layouts.{read_put}
use Rattle.packed_read.specs.table.Tables.{table_count, days_from, table_days, is_whole, is_table_in}
use Rattle.packed_read.proofs.table.Tables.{exact}
use Rattle.packed_read.specs.packed.Notes.{note_in_bytes, unpacked}
use Rattle.packed_write.specs.numbers.Numbers.{numbers_of}
use Rattle.packed_write.specs.numbers.Packable.{Packable}
use Rattle.packed_write.proofs.numbers.Accepted.{numbers_fit}
use Rattle.packed_write.specs.packed.Fields.{zeros_behind, numbers_bytes, record_bytes}
use Rattle.packed_write.specs.packed.Writing.{packed_note}
use Rattle.packed_write.proofs.packed.Answers.{note_packable}
use Rattle.packed_write.proofs.packed.Fields.{length_record, whole-bits, whole-bytes, bytes-length}
use Rattle.packed_round_trips.specs.RoundTrips.{InMachine}
use Rattle.packed_round_trips.proofs.Tables.{table_read}
use Rattle.packed_round_trips.proofs.Notes.{note_read}

-- ---- every day fits its bits

days_fit : (low : ℕ) (t : List ℕ) → ascends_from low t ≡ true → AllFit (map (in_bits 22) t)
days_fit low [] e = omega arith
days_fit low (d ∷ t) e = let a = ascends_cons low d t e in (omega (arith, a.1), days_fit (d + 1) t a.2)

-- ---- the bytes of a note that is not refused

pub record Packed (n : Note) (table s : List ℕ) : Type 0 where
  pub note : Packable n
  pub table_taken : is_table table ≡ true
  pub bytes : record_bytes n table ≡ s

pub was_packed : (n : Note) (table s : List ℕ) → packed_note n table ≡ given s → Packed n table s
unfolding packed_note
was_packed n table s e =
    let a = unless-given (le_z n.period.num (pos 4095)) 18 (and_then (note_checks true (is_table table) n) (λ m. given (record_bytes m table))) s e in
    let b = then_given (note_checks true (is_table table) n) (λ m. given (record_bytes m table)) s a.1 in
    let p = note_packable n table a.0 (is_table table) b.0 refl b.1 in
    record { note = p.0; table_taken = p.1; bytes = ap (λ (m : Note). record_bytes m table) (passed true (is_table table) n b.0 b.1).itself ∙ given_injective b.2 }

-- as many zero bits as are left of the last byte
pub zeros_left : (l k n : ℕ) → l ≡ n → k ≡ (n + 7) / 8 → zeros_behind l ≡ k * 8 - n
zeros_left l k n e f = by (n % 8) refl
  where
    by : (m : ℕ) → n % 8 ≡ m → zeros_behind l ≡ k * 8 - n
    by zero g = rw (e, g) (omega arith)
    by (suc m) g = rw (e, g) (omega arith)

module _ (ns t : List ℕ) where
  record_bits : bits_of (numbers_bytes ns t) ≡ fields_bits (note_fields ns ++ table_fields t) ++ field_bits (zeros_behind (length (fields_bits (note_fields ns ++ table_fields t)))) 0
  unfolding numbers_bytes
  record_bits = whole-bits (fields_bits (note_fields ns ++ table_fields t)) (fields_are (note_fields ns ++ table_fields t))

  pub record_bytes_lem : AreBytes (numbers_bytes ns t)
  unfolding numbers_bytes
  record_bytes_lem = whole-bytes (fields_bits (note_fields ns ++ table_fields t)) (fields_are (note_fields ns ++ table_fields t))

  -- the zero bits to the byte
  zeros_are : zeros_behind (length (fields_bits (note_fields ns ++ table_fields t))) ≡ length (numbers_bytes ns t) * 8 - bit_length (length t)
  zeros_are = zeros_left (length (fields_bits (note_fields ns ++ table_fields t))) (length (numbers_bytes ns t)) (bit_length (length t)) (length_record ns t) (bytes-length ns t)

  spare-zero : field (numbers_bytes ns t) (bit_length (length t)) (length (numbers_bytes ns t) * 8 - bit_length (length t)) ≡ 0
  spare-zero =
      let w : ℕ = length (numbers_bytes ns t) * 8 - bit_length (length t) in
      let here : bits_of (numbers_bytes ns t) ≡ fields_bits (note_fields ns ++ table_fields t) ++ (field_bits w 0 ++ []) = record_bits ∙ ap (λ (x : List ℕ). fields_bits (note_fields ns ++ table_fields t) ++ x) (ap (λ (k : ℕ). field_bits k 0) zeros_are ∙ sym (append-nil (field_bits w 0))) in
      field_found (numbers_bytes ns t) (bit_length (length t)) w 0 (fields_bits (note_fields ns ++ table_fields t)) [] here (length_record ns t) (pow_pos w)

  module _ (l : length ns ≡ 20) (f : NumbersFit ns) (g : is_table t ≡ true) where
    -- the note's bits, the table's and zeros
    abbrev zeros : List ℕ
    zeros = field_bits (zeros_behind (length (fields_bits (note_fields ns ++ table_fields t)))) 0

    three_parts : bits_of (numbers_bytes ns t) ≡ fields_bits (note_fields ns) ++ (fields_bits (table_fields t) ++ zeros)
    three_parts = record_bits ∙ ap (λ (x : List ℕ). x ++ zeros) (fields_append (note_fields ns) (table_fields t)) ∙ append_assoc (fields_bits (note_fields ns)) (fields_bits (table_fields t)) zeros

    pub same_numbers : note_numbers (numbers_bytes ns t) ≡ ns
    same_numbers = read_put (numbers_bytes ns t) [] (fields_bits (table_fields t) ++ zeros) 0 0 note_widths ns three_parts refl f l

    table_found : (table_count (numbers_bytes ns t) ≡ length t) × (days_from (numbers_bytes ns t) 0 (length t) ≡ t)
    table_found = table_read (numbers_bytes ns t) (fields_bits (note_fields ns)) zeros t three_parts (length_fields (note_fields ns)) (omega (arith, table-most t g), days_fit 1 t (table_ascends t g))

    pub same-days : table_days (numbers_bytes ns t) ≡ t
    same-days = ap (days_from (numbers_bytes ns t) 0) table_found.0 ∙ table_found.1

    pub whole : is_whole (numbers_bytes ns t) ≡ true
    whole = sym (exact (numbers_bytes ns t) (length t) 0 (sym table_found.0) (omega (arith, bytes-length ns t)) (table-most t g) (bytes-length ns t) (sym spare-zero))

    pub table_in : is_table_in (numbers_bytes ns t) ≡ true
    unfolding is_table_in
    table_in =
        let few : leb (table_count (numbers_bytes ns t)) 4096 ≡ true = ap (λ (k : ℕ). leb k 4096) table_found.0 ∙ le-leb (length t) 4096 (table-most t g) in
        let same : is_table (table_days (numbers_bytes ns t)) ≡ true = ap is_table same-days ∙ g in
        rw (few, same)

pub reads_back : (n : Note) (table : List ℕ) → Packable n → is_table table ≡ true → InMachine n → unpacked (record_bytes n table) ≡ given (record { note = n; days = table })
unfolding unpacked note_in_bytes
reads_back n table p t m =
    let f = numbers_fit n p m.0 m.1 in
    rw (whole (numbers_of n) table refl f t, table_in (numbers_of n) table refl f t, same_numbers (numbers_of n) table refl f t, note_read n p m, same-days (numbers_of n) table refl f t)
