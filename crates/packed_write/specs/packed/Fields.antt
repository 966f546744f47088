-- The bytes of a note and its table.
use Rattle.std.specs.Prelude.{ℕ, ◌+◌, ◌-◌, ◌/◌, ◌%◌, List, ◌++◌, length}
use Rattle.bit_fields.specs.Bits.{field_bits, fields_bits, bytes_of}
use Rattle.bond.specs.declared.note.Note.{Note}
use Rattle.packed_layout.specs.NoteLayout.{note_fields, table_fields}
use Rattle.packed_write.specs.numbers.Numbers.{numbers_of}

-- the bytes of bits, zero bits to the byte
abbrev pub zeros_behind : ℕ → ℕ
zeros_behind n = (8 - n % 8) % 8

unfoldable pub whole_bytes : List ℕ → List ℕ
whole_bytes s = bytes_of ((length s + 7) / 8) (s ++ field_bits (zeros_behind (length s)) 0)

-- of a note's numbers, and the table that follows
unfoldable pub numbers_bytes : List ℕ → List ℕ → List ℕ
numbers_bytes ns table = whole_bytes (fields_bits (note_fields ns ++ table_fields table))

abbrev pub record_bytes : Note → List ℕ → List ℕ
record_bytes n table = numbers_bytes (numbers_of n) table
