-- Written and read: each gives back what the other took.
use Rattle.std.specs.Prelude.{Ok}
use Prim.Native.Nat.{ℕ}
use mathlib.Core.Path.{◌≡◌, sym, ap, subst, ◌∙◌}
use mathlib.Core.List.{List}
use lib.ListN.{take}
use Rattle.outcome.specs.Outcome.{given}
use Rattle.outcome.proofs.Outcomes.{given_injective, then_given}
use Rattle.bit_fields.specs.Bits.{AreBytes}
use Rattle.bond.specs.declared.note.Note.{Note}
use Rattle.packed_read.specs.packed.Notes.{Unpacked, unpacked}
use Rattle.packed_write.specs.numbers.Numbers.{numbers_of}
use Rattle.number_text.specs.write.Writing.{written_length, shown_bytes}
use Rattle.number_text.proofs.write.Writers.{written_text}
use Rattle.packed_write.specs.packed.Writing.{packed_note, WritePromise}
use Rattle.packed_round_trips.specs.RoundTrips.{InMachine, RoundTrips}
use Rattle.packed_round_trips.proofs.Written.{was_packed, record_bytes_lem, reads_back}
use Rattle.packed_round_trips.proofs.Read.{writes_back}

written_bytes_lem : (n : Note) (table s : List ℕ) → packed_note n table ≡ given s → AreBytes s
written_bytes_lem n table s e = subst AreBytes (was_packed n table s e).bytes (record_bytes_lem (numbers_of n) table)

written_reads : (n : Note) (table s : List ℕ) → InMachine n → packed_note n table ≡ given s → unpacked s ≡ given (record { note = n; days = table })
written_reads n table s m e = let p = was_packed n table s e in ap unpacked (sym p.bytes) ∙ reads_back n table p.note p.table_taken m

lent_reads : (n : Note) (table old new : List ℕ) (k : ℕ) → InMachine n → WritePromise n table old new (Ok k) → unpacked (take k new) ≡ given (record { note = n; days = table })
lent_reads n table old new k m p =
    let w = then_given (packed_note n table) (written_length old) k (sym p.0) in
    let text : take k new ≡ w.0 = written_text old new w.0 k (sym w.2, p.1 ∙ ap (shown_bytes old) w.1) in
    ap unpacked text ∙ written_reads n table w.0 m w.1

one-note : (n m : Note) (table days s : List ℕ) → InMachine n → InMachine m → packed_note n table ≡ given s → packed_note m days ≡ given s → (n ≡ m) × (table ≡ days)
one-note n m table days s h k e f =
    let same : ◌≡◌ {A = Unpacked} (record { note = n; days = table }) (record { note = m; days = days }) = given_injective (sym (written_reads n table s h e) ∙ written_reads m days s k f) in
    (ap (λ (p : Unpacked). p.note) same, ap (λ (p : Unpacked). p.days) same)

other_count : (n m : Note) (table days s t : List ℕ) → InMachine n → InMachine m → packed_note n table ≡ given s → packed_note m days ≡ given t → (n.number.count ≡ m.number.count → ⊥) → s ≡ t → ⊥
other_count n m table days s t h k e f apart q = apart (ap (λ (x : Note). x.number.count) (one-note n m table days s h k e (f ∙ ap given (sym q))).0)

pub round_trips : RoundTrips
round_trips = record {
  written_bytes_lem = written_bytes_lem;
  written_reads = written_reads;
  lent_reads = lent_reads;
  read_writes = writes_back;
  one-note = one-note;
  other_count = other_count;
}
