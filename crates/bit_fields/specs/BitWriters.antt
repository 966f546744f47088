-- Fields put one after the other: whole bytes are written, and the bits of the next one are held.
-- For inner functions only: no entry point promises it.
use Rattle.std.specs.Prelude.{ℕ, ◌+◌, ◌-◌, ◌*◌, ◌%◌, ◌≤◌, ◌≡◌, List, ◌++◌, length, take, drop}
use Rattle.bit_fields.specs.Bits.{Field, field_bits, fields_bits, bits_of, AreBytes}
use Rattle.bit_fields.specs.declared.LentBits.{LentBits}

-- how many bits are put so far, and that there is room for n behind them
abbrev pub bits_so_far : LentBits → ℕ
bits_so_far p = 8 * p.writer.place + p.writer.count

abbrev pub HasRoom : LentBits → ℕ → Type 0
HasRoom p n = bits_so_far p + n ≤ 8 * length p.out.now

-- how many are left of the byte that is begun
abbrev pub to_the_byte : LentBits → ℕ
to_the_byte p = (8 - p.writer.count) % 8

-- the bits that are put so far, those held with them
abbrev pub put_so_far : LentBits → List ℕ
put_so_far p = bits_of (take p.writer.place p.out.now) ++ field_bits p.writer.count p.writer.bits

-- what putting fields of n bits promises: they stand behind those before, the bytes past them are
-- as they were, and it is n bits further
pub record FieldsPut (p r : LentBits) (n : ℕ) (fs : List Field) : Type 0 where
  pub same_reference : r.out.ghost_name ≡ p.out.ghost_name
  pub standing : put_so_far r ≡ put_so_far p ++ fields_bits fs
  pub bytes : AreBytes (take p.writer.place p.out.now) → AreBytes (take r.writer.place r.out.now)
  pub past : drop r.writer.place r.out.now ≡ drop r.writer.place p.out.now
  pub same_length : length r.out.now ≡ length p.out.now
  pub moved : bits_so_far r ≡ bits_so_far p + n
  pub counted : length (fields_bits fs) ≡ n
