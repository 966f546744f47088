-- A note and the numbers it is packed as, each from the other.
use Prim.Native.Nat.{ℕ, ◌^◌, ◌<◌, min}
use mathlib.Core.Path.{◌≡◌, sym, ap, subst, ◌∙◌}
use mathlib.Core.Bool.{true, not}
use mathlib.Core.List.{List, map}
use native.Mathlib.Nat.{add-sub_of_le, add-sub_cancel_left}
use native.Mathlib.Omega.{arith}
use borrow.Author.Tests.{le-leb, eqb-true}
use lib.Dec.{T, leb}
use lib.IntN.{pos}
use lib.ListN.{length}
use lib.Ieee.{binary64, of_bits, is_nan}
use lib.Ieee.Bits.{of_bits-to_bits, to_bits-of_bits}
use Rattle.outcome.specs.Outcome.{given, both}
use Rattle.outcome.proofs.Outcomes.{both_true}
use Rattle.bond.specs.note.Notes.{note_checks}
use Rattle.bond.specs.declared.note.Note.{Note}
use Rattle.bond.specs.declared.limits.NoteNumber.{NoteNumber}
use Rattle.bond.proofs.note.Ends.{passed}
use Rattle.packed_codes.proofs.Codes.{unit_code, unit_back, convention_code, convention_back, adjustment_code, adjustment_back}
use Rattle.packed_layout.specs.NoteLayout.{Name, note_names, number_in, NumbersFit}
use Rattle.packed_layout.proofs.NoteLayout.{by_names}
use Rattle.packed_read.specs.note.Codes.{number_good, digits_good, digits_number}
use Rattle.packed_read.specs.note.Records.{note_with, note_from}
use Rattle.packed_read.proofs.note.Reading.{Given, was_given}
use Rattle.packed_write.specs.numbers.Codes.{digits_places}
use Rattle.packed_write.specs.numbers.Numbers.{numbers_of}
use Rattle.packed_write.specs.numbers.Packable.{Packable}
use Rattle.packed_write.proofs.numbers.Accepted.{capitals, Digits, digits_known, in_twelve, accepted, rate_no_nan}
use Rattle.packed_round_trips.specs.RoundTrips.{InMachine}
use Rattle.packed_round_trips.proofs.Digits.{good_places, places-number, number-places}

-- ---- from the note and back

places_good : (n : NoteNumber) → Digits n → number_good n.count (digits_places n.count 10 n.digits) ≡ true
unfolding number_good
places_good n h = rw (le-leb 1 n.count h.from, le-leb n.count 10 h.to) (good_places n.count 10 n.digits)

same_digits : (n : NoteNumber) → Digits n → digits_number n.count 10 (digits_places n.count 10 n.digits) ≡ n.digits
same_digits n h =
    let m : min 10 n.count ≡ n.count = omega (arith, h.to) in
    places-number n.count 10 n.digits (subst (λ (j : ℕ). n.digits < 10 ^ j) (sym m) h.below)

module _ (n : Note) (p : Packable n) (m : InMachine n) where
  note_back : note_with (numbers_of n) n.period.unit n.day_count_convention n.business_day_rule ≡ n
  note_back =
      let a = accepted n p in
      let c = capitals n.currency a.currency in
      rw (
        same_digits n.number (digits_known n.number a.number),
        (in_twelve n.period.num a.period p.0).1,
        of_bits-to_bits binary64 n.rate m.1,
        add-sub_of_le {n = n.currency.first} {m = 64} (omega (arith, c.first.0)),
        add-sub_of_le {n = n.currency.second} {m = 64} (omega (arith, c.second.0)),
        add-sub_of_le {n = n.currency.third} {m = 64} (omega (arith, c.third.0)),
      )

  pub note_read : note_from true (numbers_of n) ≡ given n
  unfolding note_from
  note_read =
      rw (places_good n.number (digits_known n.number (accepted n p).number), unit_back n.period.unit, convention_back n.day_count_convention, adjustment_back n.business_day_rule, note_back) p.1

-- ---- from the numbers and back

module _ (ns : List ℕ) (n : Note) (e : note_from true ns ≡ given n) where
  read : Given true ns n
  read = was_given true ns n e

  itself : note_with ns read.unit read.convention read.adjustment ≡ n
  itself = (passed true true (note_with ns read.unit read.convention read.adjustment) n read.checked).itself

  pub note_passes : note_checks true true n ≡ given n
  note_passes = subst (λ (m : Note). note_checks true true m ≡ given n) itself read.checked

  pub period_number : n.period.num ≡ pos (number_in ns Name.number)
  period_number = ap (λ (m : Note). m.period.num) (sym itself)

  same-places : number_in ns Name.digits < 16 ^ 10 → digits_places (number_in ns Name.digit_count) 10 (digits_number (number_in ns Name.digit_count) 10 (number_in ns Name.digits)) ≡ number_in ns Name.digits
  unfolding number_good
  same-places l =
      let c : ℕ = number_in ns Name.digit_count in
      number-places c 10 (number_in ns Name.digits) (both_true (both (leb 1 c) (leb c 10)) (digits_good c 10 (number_in ns Name.digits)) read.number_good_lem).1 l

  pub numbers_back : length ns ≡ 20 → NumbersFit ns → numbers_of n ≡ ns
  numbers_back l f =
      let q = passed true true (note_with ns read.unit read.convention read.adjustment) n read.checked in
      let no_nan : T (not (is_nan (of_bits binary64 (number_in ns Name.rate)))) = rate_no_nan (of_bits binary64 (number_in ns Name.rate)) q.note.rate in
      let small : number_in ns Name.rate < 2 ^ 64 = omega arith in
      let same : numbers_of (note_with ns read.unit read.convention read.adjustment) ≡ map (number_in ns) note_names =
      rw (
        same-places (omega arith),
        unit_code (number_in ns Name.unit) read.unit read.unit_known,
        convention_code (number_in ns Name.day_count) read.convention read.convention_known,
        adjustment_code (number_in ns Name.adjustment) read.adjustment read.adjustment_known,
        to_bits-of_bits binary64 (number_in ns Name.rate) small no_nan,
        add-sub_cancel_left 64 (number_in ns Name.first_letter),
        add-sub_cancel_left 64 (number_in ns Name.second_letter),
        add-sub_cancel_left 64 (number_in ns Name.third_letter),
        eqb-true (number_in ns Name.spare) 0 read.spare,
      ) in
      ap numbers_of (sym itself) ∙ same ∙ by_names ns l
