-- The note that the numbers of a packed note are.
use Rattle.std.specs.Prelude.{ℕ, ◌+◌, Bool, true, List, eqb, pos}
use Rattle.std.specs.Float.{binary64}
use Rattle.std.specs.Float.Ieee.{of_bits}
use Rattle.outcome.specs.Outcome.{Outcome, unless, and_then, both}
use Rattle.time_period.specs.declared.steps.TimePeriodUnit.{TimePeriodUnit}
use Rattle.day_count_conv.specs.declared.conventions.DayCountConv.{DayCountConv}
use Rattle.day_adjust.specs.declared.DayAdjust.{DayAdjust}
use Rattle.cash_flow.specs.declared.currency.Currency.{Currency}
use Rattle.bond.specs.note.Notes.{note_checks}
use Rattle.bond.specs.declared.note.Note.{Note}
use Rattle.bond.specs.declared.limits.NoteNumber.{NoteNumber}
use Rattle.packed_codes.specs.Codes.{unit_of_code, convention_of_code, adjustment_of_code}
use Rattle.packed_layout.specs.NoteLayout.{Name, number_in}
use Rattle.packed_read.specs.note.Codes.{number_good, digits_number}

-- the note's number passes digit by digit
abbrev pub note_number_in : List ℕ → NoteNumber
note_number_in ns = record { count = number_in ns Name.digit_count; digits = digits_number (number_in ns Name.digit_count) 10 (number_in ns Name.digits) }

-- a letter is its place in the alphabet: A = 1
abbrev pub currency_in : List ℕ → Currency
currency_in ns = record { first = 64 + number_in ns Name.first_letter; second = 64 + number_in ns Name.second_letter; third = 64 + number_in ns Name.third_letter }

-- the note, of a unit, a day count and an adjustment that are known; the period's number is
-- unsigned
abbrev pub note_with : List ℕ → TimePeriodUnit → DayCountConv → DayAdjust → Note
note_with ns u c a = record {
  number = note_number_in ns;
  issue_date = record { year = number_in ns Name.issue_year; month = number_in ns Name.issue_month; day = number_in ns Name.issue_day };
  maturity = record { year = number_in ns Name.maturity_year; month = number_in ns Name.maturity_month; day = number_in ns Name.maturity_day };
  coupon_date = record { day = number_in ns Name.coupon_day; month = number_in ns Name.coupon_month };
  period = record { num = pos (number_in ns Name.number); unit = u };
  day_count_convention = c;
  business_day_rule = a;
  denomination = number_in ns Name.denomination;
  rate = of_bits binary64 (number_in ns Name.rate);
  currency = currency_in ns;
}

-- any other code and a nonzero spare bit are 18; then the note's own checks
unfoldable pub note_from : Bool → List ℕ → Outcome Note
note_from table ns =
    unless (both (number_good (number_in ns Name.digit_count) (number_in ns Name.digits)) (eqb (number_in ns Name.spare) 0)) 18
    (and_then (unit_of_code (number_in ns Name.unit))
    (λ u. and_then (convention_of_code (number_in ns Name.day_count))
    (λ c. and_then (adjustment_of_code (number_in ns Name.adjustment))
    (λ a. note_checks true table (note_with ns u c a)))))
