-- Fields as bits, and bits as whole bytes.
use Prim.Native.Nat.{ℕ, ◌+◌, ◌*◌, ◌/◌}
use mathlib.Core.Path.{◌≡◌, ap, ◌∙◌}
use mathlib.Core.List.{List, ◌++◌}
use native.Mathlib.Omega.{arith}
use lib.ListN.{length, length-append}
use Rattle.outcome.proofs.Lists.{every_append}
use Rattle.bit_fields.specs.Bits.{field_bits, fields_bits, bits_of, AreBytes}
use Rattle.bit_fields.proofs.Bits.{Bit, AreBits, length-field, field-bits, length_fields, same_widths, length-bytes, bits_back, bytes-are}
use Rattle.packed_layout.specs.NoteLayout.{note_fields, table_fields, bit_length, byte_length}
use Rattle.packed_write.specs.packed.Fields.{zeros_behind, whole_bytes, numbers_bytes}

-- a note and its table
pub length_record : (ns t : List ℕ) → length (fields_bits (note_fields ns ++ table_fields t)) ≡ bit_length (length t)
length_record ns t = omega (arith, length_fields (note_fields ns ++ table_fields t), same_widths 22 t)

-- ---- whole bytes

module _ (s : List ℕ) where
  pub padded_length : length (s ++ field_bits (zeros_behind (length s)) 0) ≡ 8 * ((length s + 7) / 8)
  padded_length = omega (arith, length-append s (field_bits (zeros_behind (length s)) 0), length-field (zeros_behind (length s)) 0)

  pub whole_length : length (whole_bytes s) ≡ (length s + 7) / 8
  unfolding whole_bytes
  whole_length = length-bytes ((length s + 7) / 8) (s ++ field_bits (zeros_behind (length s)) 0)

  pub whole-bits : AreBits s → bits_of (whole_bytes s) ≡ s ++ field_bits (zeros_behind (length s)) 0
  unfolding whole_bytes
  whole-bits h = bits_back ((length s + 7) / 8) (s ++ field_bits (zeros_behind (length s)) 0) (every_append Bit s (field_bits (zeros_behind (length s)) 0) h (field-bits (zeros_behind (length s)) 0)) padded_length

  pub whole-bytes : AreBits s → AreBytes (whole_bytes s)
  unfolding whole_bytes
  whole-bytes h = bytes-are ((length s + 7) / 8) (s ++ field_bits (zeros_behind (length s)) 0) (every_append Bit s (field_bits (zeros_behind (length s)) 0) h (field-bits (zeros_behind (length s)) 0)) padded_length

pub bytes-length : (ns t : List ℕ) → length (numbers_bytes ns t) ≡ byte_length (length t)
unfolding numbers_bytes
bytes-length ns t = whole_length (fields_bits (note_fields ns ++ table_fields t)) ∙ ap (λ (n : ℕ). (n + 7) / 8) (length_record ns t)
