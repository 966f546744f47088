-- The cases of a note's reading, each as the code meets it.
use Prim.Native.Nat.{ℕ, ◌^◌, ◌≤◌, ◌<◌}
use mathlib.Core.Path.{◌≡◌}
use mathlib.Core.Bool.{Bool, true, false}
use mathlib.Core.List.{List}
use borrow.Author.Tests.{eq-eqb, ne_eqb}
use lib.Dec.{eqb}
use Rattle.outcome.specs.Outcome.{Outcome, given, refused, and_then, both}
use Rattle.outcome.proofs.Outcomes.{both_true, unless-given, then_given}
use Rattle.time_period.specs.declared.steps.TimePeriodUnit.{TimePeriodUnit}
use Rattle.day_adjust.specs.declared.DayAdjust.{DayAdjust}
use Rattle.day_count_conv.specs.declared.conventions.DayCountConv.{DayCountConv}
use Rattle.bond.specs.note.Notes.{note_checks}
use Rattle.bond.specs.declared.note.Note.{Note}
use Rattle.bond.proofs.limits.Limits.{high_bits}
use Rattle.bond.proofs.note.Ends.{passed}
use Rattle.packed_codes.specs.Codes.{unit_of_code, convention_of_code, adjustment_of_code}
use Rattle.packed_layout.specs.NoteLayout.{Name, number_in}
use Rattle.packed_read.specs.note.Codes.{number_good}
use Rattle.packed_read.specs.note.Records.{note_with, note_from}
use Rattle.packed_read.proofs.note.Numbers.{number-accepted}

module _ (table : Bool) (ns : List ℕ) where
  -- bits that are no number's are refused 15, the number of the note being good
  pub no_rate : (u : TimePeriodUnit) (c : DayCountConv) (a : DayAdjust) → number_good (number_in ns Name.digit_count) (number_in ns Name.digits) ≡ true → 9218868437227405312 ≤ number_in ns Name.rate → number_in ns Name.rate < 2 ^ 64 → refused 15 ≡ note_checks true table (note_with ns u c a)
  unfolding note_checks
  no_rate u c a g h l = rw (number-accepted ns g, high_bits (number_in ns Name.rate) h l)

  -- what a test of the number said, and the spare bits
  pub bad_number : (good : Bool) → good ≡ number_good (number_in ns Name.digit_count) (number_in ns Name.digits) → good ≡ false → refused 18 ≡ note_from table ns
  unfolding note_from
  bad_number good e f = rw (← e, f)

  pub spare_set : (good : Bool) → good ≡ number_good (number_in ns Name.digit_count) (number_in ns Name.digits) → good ≡ true → (number_in ns Name.spare ≡ 0 → ⊥) → refused 18 ≡ note_from table ns
  unfolding note_from
  spare_set good e f g = rw (← e, f, ne_eqb (number_in ns Name.spare) 0 g)

  -- what the codes decide
  abbrev pub by_codes : Outcome Note
  by_codes =
      and_then (unit_of_code (number_in ns Name.unit))
      (λ u. and_then (convention_of_code (number_in ns Name.day_count))
      (λ c. and_then (adjustment_of_code (number_in ns Name.adjustment))
      (λ a. note_checks true table (note_with ns u c a))))

  pub well_formed : number_good (number_in ns Name.digit_count) (number_in ns Name.digits) ≡ true → number_in ns Name.spare ≡ 0 → note_from table ns ≡ by_codes
  unfolding note_from
  well_formed f g = rw (f, eq-eqb (number_in ns Name.spare) 0 g)

  -- a note that is given
  pub record Given (n : Note) : Type 0 where
    pub unit : TimePeriodUnit
    pub convention : DayCountConv
    pub adjustment : DayAdjust
    pub number_good_lem : number_good (number_in ns Name.digit_count) (number_in ns Name.digits) ≡ true
    pub spare : eqb (number_in ns Name.spare) 0 ≡ true
    pub unit_known : unit_of_code (number_in ns Name.unit) ≡ given unit
    pub convention_known : convention_of_code (number_in ns Name.day_count) ≡ given convention
    pub adjustment_known : adjustment_of_code (number_in ns Name.adjustment) ≡ given adjustment
    pub checked : note_checks true table (note_with ns unit convention adjustment) ≡ given n

  pub was_given : (n : Note) → note_from table ns ≡ given n → Given n
  unfolding note_from
  was_given n e =
      let good = unless-given (both (number_good (number_in ns Name.digit_count) (number_in ns Name.digits)) (eqb (number_in ns Name.spare) 0)) 18 by_codes n e in
      let p = both_true (number_good (number_in ns Name.digit_count) (number_in ns Name.digits)) (eqb (number_in ns Name.spare) 0) good.0 in
      let u = then_given (unit_of_code (number_in ns Name.unit)) _ n good.1 in
      let c = then_given (convention_of_code (number_in ns Name.day_count)) _ n u.2 in
      let a = then_given (adjustment_of_code (number_in ns Name.adjustment)) _ n c.2 in
      record {
        unit = u.0;
        convention = c.0;
        adjustment = a.0;
        number_good_lem = p.0;
        spare = p.1;
        unit_known = u.1;
        convention_known = c.1;
        adjustment_known = a.1;
        checked = a.2;
      }

  pub table-given : (n : Note) → note_from table ns ≡ given n → table ≡ true
  table-given n e = let g = was_given n e in (passed true table (note_with ns g.unit g.convention g.adjustment) n g.checked).table_taken
