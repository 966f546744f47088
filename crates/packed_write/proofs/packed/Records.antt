-- A note's numbers, its table and zero bits, put one after the other: the record's bytes.
use Prim.Native.Nat.{ℕ, ◌+◌, ◌*◌, ◌/◌, ◌≤◌, ◌<◌}
use mathlib.Core.Path.{◌≡◌, sym, ap, ◌∙◌}
use mathlib.Core.List.{List, [], ◌∷◌, ◌++◌, map, map-append}
use native.Mathlib.Nat.{zero-add}
use native.Mathlib.Omega.{arith}
use lib.ListN.{length, take, get_or}
use lib.Seq.{take-length}
use Rattle.outcome.proofs.Lists.{take_more}
use Rattle.bit_fields.specs.Bits.{in_bits, field_bits, fields_bits, bytes_of}
use Rattle.bit_fields.specs.BitWriters.{FieldsPut, to_the_byte}
use Rattle.bit_fields.specs.declared.LentBits.{LentBits}
use Rattle.bit_fields.proofs.Bits.{one_field, fields_append, length-bytes}
use Rattle.bit_fields.proofs.BitWriters.{BitsPut, bits_put_all, put_then, put_is, put_from_start}
use Rattle.packed_layout.specs.Layouts.{total}
use Rattle.packed_layout.specs.NoteLayout.{note_widths, note_fields, table_fields, byte_length}
use Rattle.number_text.specs.write.Writing.{put, Wrote}
use Rattle.packed_write.specs.packed.Fields.{zeros_behind, whole_bytes, numbers_bytes}
use Rattle.packed_write.proofs.packed.Fields.{length_record, padded_length}

-- a day behind those before it
pub put-day : {p q r : LentBits} (t : List ℕ) (i x : ℕ) → i < length t → x ≡ get_or t i 0 → FieldsPut p q (22 * i) (map (in_bits 22) (take i t)) → FieldsPut q r 22 (in_bits 22 x ∷ []) → FieldsPut p r (22 * (i + 1)) (map (in_bits 22) (take (i + 1) t))
put-day t i x h g a b =
    let more : map (in_bits 22) (take (i + 1) t) ≡ map (in_bits 22) (take i t) ++ (in_bits 22 x ∷ []) = rw (g) (ap (λ (s : List ℕ). map (in_bits 22) s) (take_more t i 0 h) ∙ map-append (in_bits 22) (take i t) (get_or t i 0 ∷ [])) in
    put_is (put_then a b) (omega arith) (ap fields_bits (sym more))

pub put-days : {p r : LentBits} (t : List ℕ) (i : ℕ) → i ≡ length t → FieldsPut p r (22 * i) (map (in_bits 22) (take i t)) → FieldsPut p r (22 * length t) (map (in_bits 22) t)
put-days t i h a = put_is a (ap (λ (k : ℕ). 22 * k) h) (ap (λ (s : List ℕ). fields_bits (map (in_bits 22) s)) (ap (λ (k : ℕ). take k t) h ∙ take-length t))

-- ---- the whole

-- the note, the table and zero bits to the byte are the record's bytes
module _ {o p q r : LentBits} (ns : List ℕ) (t : List ℕ) (start : (o.writer.place ≡ 0) × (o.writer.count ≡ 0)) (a : FieldsPut o p (total note_widths) (note_fields ns)) (b : FieldsPut p q (16 + 22 * length t) (table_fields t)) (c : FieldsPut q r (to_the_byte q) (in_bits (to_the_byte q) 0 ∷ [])) (room : byte_length (length t) ≤ length o.out.now) where
  abbrev zeros : ℕ
  zeros = to_the_byte q

  noted : FieldsPut o q (total note_widths + (16 + 22 * length t)) (note_fields ns ++ table_fields t)
  noted = put_then a b

  zeros_are : zeros ≡ zeros_behind (length (fields_bits (note_fields ns ++ table_fields t)))
  zeros_are = omega (arith, noted.moved, q.writer.part_of_a_byte, length_record ns t)

  padded : fields_bits ((note_fields ns ++ table_fields t) ++ (in_bits zeros 0 ∷ [])) ≡ fields_bits (note_fields ns ++ table_fields t) ++ field_bits (zeros_behind (length (fields_bits (note_fields ns ++ table_fields t)))) 0
  padded =
      fields_append (note_fields ns ++ table_fields t) (in_bits zeros 0 ∷ [])
      ∙ ap (λ (s : List ℕ). fields_bits (note_fields ns ++ table_fields t) ++ s) (one_field (in_bits zeros 0) ∙ ap (λ (w : ℕ). field_bits w 0) zeros_are)

  all_put : BitsPut o.out.now r (fields_bits ((note_fields ns ++ table_fields t) ++ (in_bits zeros 0 ∷ [])))
  all_put = put_from_start start (put_then noted c)

  pub record_wrote : Wrote o.out.now r.out.now 0 (numbers_bytes ns t) r.writer.place
  unfolding numbers_bytes whole_bytes
  record_wrote =
      let k : ℕ = (length (fields_bits (note_fields ns ++ table_fields t)) + 7) / 8 in
      let long : length (fields_bits ((note_fields ns ++ table_fields t) ++ (in_bits zeros 0 ∷ []))) ≡ 8 * k = ap length padded ∙ padded_length (fields_bits (note_fields ns ++ table_fields t)) in
      let done = bits_put_all o.out.now r _ k all_put long (omega (arith, length_record ns t)) in
      (done.0 ∙ ap (λ (s : List ℕ). put o.out.now 0 (bytes_of k s)) padded, done.1 ∙ sym (zero-add (length (bytes_of k (fields_bits (note_fields ns ++ table_fields t) ++ field_bits (zeros_behind (length (fields_bits (note_fields ns ++ table_fields t)))) 0))) ∙ length-bytes k (fields_bits (note_fields ns ++ table_fields t) ++ field_bits (zeros_behind (length (fields_bits (note_fields ns ++ table_fields t)))) 0)))
