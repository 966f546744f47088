-- Written and read: each gives back what the other took, so no record has two notes and no note two
-- records.
use Rattle.std.specs.Prelude.{ℕ, ◌^◌, ◌<◌, ◌≡◌, List, take, T, Ok}
use Rattle.std.specs.Float.{binary64}
use Rattle.std.specs.Float.Ieee.{fits}
use Rattle.outcome.specs.Outcome.{given}
use Rattle.bit_fields.specs.Bits.{AreBytes}
use Rattle.bond.specs.declared.note.Note.{Note}
use Rattle.packed_read.specs.packed.Notes.{Unpacked, unpacked}
use Rattle.packed_write.specs.packed.Writing.{packed_note, WritePromise}

-- a note as the machine holds it: a denomination of 32 bits, a rate that is an f64
abbrev pub InMachine : Note → Type 0
InMachine n = (n.denomination < 2 ^ 32) × T (fits binary64 n.rate)

-- the laws of writing and reading
pub record RoundTrips : Type 0 where
  -- what is written are bytes, and they read back as the note and the table
  pub written_bytes_lem : (n : Note) (table s : List ℕ) → packed_note n table ≡ given s → AreBytes s
  pub written_reads : (n : Note) (table s : List ℕ) → InMachine n → packed_note n table ≡ given s → unpacked s ≡ given (record { note = n; days = table })
  -- so do the first k bytes, where the answer is k
  pub lent_reads : (n : Note) (table old new : List ℕ) (k : ℕ) → InMachine n → WritePromise n table old new (Ok k) → unpacked (take k new) ≡ given (record { note = n; days = table })
  -- what is read without a refusal writes back as the same bytes
  pub read_writes : (s : List ℕ) (p : Unpacked) → AreBytes s → unpacked s ≡ given p → packed_note p.note p.days ≡ given s
  -- two notes with one record are one note, and their tables one table
  pub one-note : (n m : Note) (table days s : List ℕ) → InMachine n → InMachine m → packed_note n table ≡ given s → packed_note m days ≡ given s → (n ≡ m) × (table ≡ days)
  -- so 00417 and 417 are two records: numbers of other lengths have other bytes
  pub other_count : (n m : Note) (table days s t : List ℕ) → InMachine n → InMachine m → packed_note n table ≡ given s → packed_note m days ≡ given t → (n.number.count ≡ m.number.count → ⊥) → s ≡ t → ⊥
