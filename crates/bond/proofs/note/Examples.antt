-- The note of the paper's listing, and the refusals of a note in their order, as theorems about the
-- definitions.
use Prim.Native.Nat.{ℕ}
use mathlib.Core.Path.{◌≡◌, refl}
use mathlib.Core.Bool.{true, false}
use lib.IntN.{ℤ, pos, negsuc}
use lib.Ieee.{Float, nan, inf, fin}
use Rattle.outcome.specs.Outcome.{given, refused}
use Rattle.calendar.specs.gregorian.Gregorian.{leap, length_in, month_length}
use Rattle.calendar.specs.dates.Dates.{is_date}
use Rattle.calendar.specs.declared.dates.Date.{Date}
use Rattle.date_step.specs.Steps.{existing_date}
use Rattle.time_period.specs.declared.steps.TimePeriod.{TimePeriod}
use Rattle.time_period.specs.declared.steps.TimePeriodUnit.{TimePeriodUnit}
use Rattle.time_period.specs.declared.steps.TimePeriodUnit.TheVariants as unit
use Rattle.coupon_date.specs.Coupons.{coupon_date_of}
use Rattle.coupon_date.specs.declared.CouponDate.{CouponDate}
use Rattle.cash_flow.specs.currency.Amounts.{is_capital, is_currency}
use Rattle.cash_flow.specs.declared.currency.Currency.{Currency}
use Rattle.bond.specs.limits.Limits.{is_note_number, is_coupon_rate}
use Rattle.bond.specs.note.Notes.{is_position, period_checks, term_checks, note_checks, in_year_of, first_coupon_end}
use Rattle.bond.specs.note.Example.{example_note}
use Rattle.bond.specs.declared.limits.NoteNumber.{NoteNumber}
use Rattle.bond.specs.declared.note.Note.{Note}
use Rattle.calendar.proofs.dates.Examples.{on}

abbrev pub every : ℤ → TimePeriodUnit → TimePeriod
every n u = record { num = n; unit = u }

abbrev pub numbered : ℕ → ℕ → NoteNumber
numbered n d = record { count = n; digits = d }

abbrev pub euro : Currency
euro = record { first = 69; second = 85; third = 82 }

-- that note with one field changed
abbrev with_number : NoteNumber → Note
with_number n = record { number = n; issue_date = example_note.issue_date; maturity = example_note.maturity; coupon_date = example_note.coupon_date; period = example_note.period; day_count_convention = example_note.day_count_convention; business_day_rule = example_note.business_day_rule; denomination = example_note.denomination; rate = example_note.rate; currency = example_note.currency }

abbrev with_rate : Float → Note
with_rate r = record { number = example_note.number; issue_date = example_note.issue_date; maturity = example_note.maturity; coupon_date = example_note.coupon_date; period = example_note.period; day_count_convention = example_note.day_count_convention; business_day_rule = example_note.business_day_rule; denomination = example_note.denomination; rate = r; currency = example_note.currency }

abbrev with_terms : Currency → Date → CouponDate → TimePeriod → Note
with_terms c issue coupon p = record { number = example_note.number; issue_date = issue; maturity = example_note.maturity; coupon_date = coupon; period = p; day_count_convention = example_note.day_count_convention; business_day_rule = example_note.business_day_rule; denomination = example_note.denomination; rate = example_note.rate; currency = c }

abbrev july : CouponDate
july = record { day = 15; month = 7 }

-- its checks; each refusal stands before those that the same note would meet later
pub record Checks : Type 0 where
  pub accepted : note_checks true true example_note ≡ given example_note
  pub no_digits : note_checks false false (with_number (numbered 0 0)) ≡ refused 18
  pub eleven_digits : note_checks true true (with_number (numbered 11 1)) ≡ refused 18
  pub too_many : note_checks true true (with_number (numbered 3 1000)) ≡ refused 18
  pub ten_digits : note_checks true true (with_number (numbered 10 9999999999)) ≡ given (with_number (numbered 10 9999999999))
  pub position : note_checks false false example_note ≡ refused 15
  pub currency : note_checks true false (with_terms (record { first = 69; second = 85; third = 91 }) (on 2021 2 29) july (every (pos 0) unit.Monthly)) ≡ refused 17
  pub issue : note_checks true false (with_terms euro (on 2021 2 29) (record { day = 0; month = 7 }) (every (pos 0) unit.Monthly)) ≡ refused 1
  pub coupon_range : note_checks true false (with_terms euro (on 2021 1 15) (record { day = 0; month = 7 }) (every (pos 0) unit.Monthly)) ≡ refused 7
  pub coupon_big : note_checks true false (with_terms euro (on 2021 1 15) (record { day = 29; month = 2 }) (every (pos 0) unit.Monthly)) ≡ refused 8
  pub table : note_checks true false (with_terms euro (on 2021 1 15) july (every (pos 0) unit.Monthly)) ≡ refused 13
  pub below_one : note_checks true true (with_terms euro (on 2021 1 15) july (every (pos 0) unit.BusinessDaily)) ≡ refused 14
  pub minus_one : note_checks true true (with_terms euro (on 2021 1 15) july (every (negsuc 0) unit.Daily)) ≡ refused 14
  pub business : note_checks true true (with_terms euro (on 2021 1 15) july (every (pos 1) unit.BusinessDaily)) ≡ refused 12

pub checks : Checks
unfolding is_note_number is_coupon_rate is_position is_capital is_currency leap length_in month_length is_date coupon_date_of period_checks term_checks note_checks
checks =
    record {
      accepted = refl;
      no_digits = refl;
      eleven_digits = refl;
      too_many = refl;
      ten_digits = refl;
      position = refl;
      currency = refl;
      issue = refl;
      coupon_range = refl;
      coupon_big = refl;
      table = refl;
      below_one = refl;
      minus_one = refl;
      business = refl;
    }

-- rates and positions at their limits: 100 is 25 * 2^2, the next f64 is 7036874417766401 / 2^46;
-- 1e9 is 1953125 * 2^9
pub record Limits : Type 0 where
  pub zero : is_coupon_rate (fin false 0 (pos 0)) ≡ true
  pub minus_zero_lem : is_coupon_rate (fin true 0 (pos 0)) ≡ false
  pub smallest : is_coupon_rate (fin false 1 (negsuc 1073)) ≡ true
  pub minus_smallest : is_coupon_rate (fin true 1 (negsuc 1073)) ≡ false
  pub hundred : is_coupon_rate (fin false 25 (pos 2)) ≡ true
  pub next-after : is_coupon_rate (fin false 7036874417766401 (negsuc 45)) ≡ false
  pub no_number : is_coupon_rate nan ≡ false
  pub infinity : is_coupon_rate (inf false) ≡ false
  pub rate_in_order : note_checks true true (with_rate nan) ≡ refused 15
  pub most : is_position (fin false 1953125 (pos 9)) ≡ true
  pub least : is_position (fin true 1953125 (pos 9)) ≡ true
  pub beyond : is_position (fin true 8388608000000001 (negsuc 22)) ≡ false
  pub position_minus_zero : is_position (fin true 0 (pos 0)) ≡ true
  pub position_infinite : is_position (inf true) ≡ false

pub limits : Limits
unfolding is_note_number is_coupon_rate is_position note_checks
limits =
    record {
      zero = refl;
      minus_zero_lem = refl;
      smallest = refl;
      minus_smallest = refl;
      hundred = refl;
      next-after = refl;
      no_number = refl;
      infinity = refl;
      rate_in_order = refl;
      most = refl;
      least = refl;
      beyond = refl;
      position_minus_zero = refl;
      position_infinite = refl;
    }

-- the first coupon ends in the issue year only if its month is after the issue's
pub record FirstEnds : Type 0 where
  pub same_year : first_coupon_end example_note ≡ given (on 2021 7 15)
  pub same_month : first_coupon_end (with_terms euro (on 2021 7 1) july (every (pos 6) unit.Monthly)) ≡ given (on 2022 7 15)
  pub last_year : first_coupon_end (with_terms euro (on 9999 7 1) july (every (pos 6) unit.Monthly)) ≡ refused 1
  pub last_july : first_coupon_end (with_terms euro (on 9999 6 30) july (every (pos 6) unit.Monthly)) ≡ given (on 9999 7 15)

pub first_ends : FirstEnds
unfolding leap length_in month_length is_date existing_date in_year_of first_coupon_end
first_ends = record { same_year = refl; same_month = refl; last_year = refl; last_july = refl }
