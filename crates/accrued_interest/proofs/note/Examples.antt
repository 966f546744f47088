-- Case m of the desk card, and the order of the refusals and of the zeros, as theorems about the
-- definitions.
use Prim.Native.Nat.{◌*◌}
use mathlib.Core.Path.{◌≡◌, refl}
use mathlib.Core.Bool.{false}
use lib.IntN.{ℤ, pos}
use lib.Ieee.{Float, nan, fin, binary64, add, mul, div, of_int, of_bits}
use Rattle.outcome.specs.Walks.{walked}
use Rattle.outcome.specs.Outcome.{given, refused}
use Rattle.calendar.specs.gregorian.Gregorian.{leap, length_in, month_length, year_length, days_before}
use Rattle.calendar.specs.dates.Dates.{is_date, is_before, is_same, day_number, month_date}
use Rattle.calendar.specs.declared.dates.Date.{Date}
use Rattle.date_step.specs.Steps.{existing_date, from_zero_to, months_later}
use Rattle.time_period.specs.steps.Periods.{months_frequency, years_frequency, frequency_of}
use Rattle.time_period.specs.declared.steps.TimePeriodUnit.TheVariants as unit
use Rattle.coupon_date.specs.Coupons.{coupon_date_of}
use Rattle.coupon_date.specs.declared.CouponDate.{CouponDate}
use Rattle.day_fraction.specs.Fractions.{exact_fraction, bits, impossible}
use Rattle.icma.specs.parts.Walk.{turn_on, walk_on, turn_back, walk_back, base_from, short_parts, first_part, last_part, to_last, to_end, to_first, long_parts, parts_from, icma_parts}
use Rattle.day_count_conv.specs.conventions.Conventions.{simple_fraction, walked_fraction, frequent_fraction, year_fraction}
use Rattle.day_count_conv.specs.declared.conventions.DayCountConv.{DayCountConv}
use Rattle.day_count_conv.specs.declared.conventions.DayCountConv.TheVariants as conv
use Rattle.day_adjust.specs.declared.DayAdjust.TheVariants as rule
use Rattle.cash_flow.specs.currency.Amounts.{is_capital, is_currency}
use Rattle.bond.specs.note.Notes.{is_note_number, is_coupon_rate, period_checks, term_checks, note_checks, in_year_of, first_coupon_end}
use Rattle.bond.specs.note.Example.{example_note}
use Rattle.bond.specs.declared.note.Note.{Note}
use Rattle.calendar.proofs.dates.Examples.{on}
use Rattle.bond.proofs.note.Examples.{every, numbered, euro}
use Rattle.accrued_interest.specs.note.Accrued.{next_period, goes_on, period_holding, amount_due, accrued_in, accrued_from, accrued_on, accrued, amounts_in_f64, amounts_exactly}
use Rattle.coupon_date.proofs.Examples.{on as dayMonth}
use Rattle.day_fraction.proofs.Examples.{fraction as over}

-- a note of 1000 EUR with a coupon each n months
abbrev note_of : Float → Date → Date → CouponDate → ℤ → DayCountConv → Note
note_of rate issue maturity coupon n c =
    record {
      number = numbered 5 417;
      issue_date = issue;
      maturity = maturity;
      coupon_date = coupon;
      period = every n unit.Monthly;
      day_count_convention = c;
      business_day_rule = rule.Modified;
      denomination = 1000;
      rate = rate;
      currency = euro;
    }

abbrev four : Float
four = fin false 1 (pos 2)

-- 6M under 30E/360 until 2030, 3M and 2M under ICMA, and one whose first coupon ends past the
-- calendar
abbrev long : Note
long = note_of four (on 2021 1 15) (on 2030 1 15) (dayMonth 15 7) (pos 6) conv.D30E360

abbrev quarterly : Note
quarterly = note_of four (on 2021 1 15) (on 2030 1 15) (dayMonth 30 4) (pos 3) conv.ActActICMA

abbrev two_months : Note
two_months = note_of four (on 2021 1 15) (on 2030 1 15) (dayMonth 15 7) (pos 2) conv.ActActICMA

abbrev at_the_end : Note
at_the_end = note_of four (on 9999 12 1) (on 9999 12 31) (dayMonth 15 7) (pos 6) conv.D30E360

abbrev unrated : Note
unrated = note_of nan (on 2021 1 15) (on 2022 1 15) (dayMonth 15 7) (pos 6) conv.D30E360

-- m: accrued on the example_note note, 2021-04-15: 1000 x 4 / 100 x 180/360 x 90/181
pub record Card : Type 0 where
  pub m : accrued amounts_exactly example_note (on 2021 4 15) ≡ given (over (pos 64800000) 6516000)
  pub reduced : 64800000 * 181 ≡ 1800 * 6516000
  pub m-bits : accrued amounts_in_f64 example_note (on 2021 4 15) ≡ given (of_bits binary64 0x4023e3b673fa57b1)

pub card : Card
unfolding is_note_number is_coupon_rate is_capital is_currency leap length_in month_length year_length days_before is_date is_before is_same day_number coupon_date_of existing_date period_checks term_checks note_checks in_year_of first_coupon_end exact_fraction bits impossible simple_fraction year_fraction next_period goes_on walked period_holding amount_due accrued_in accrued_from accrued_on accrued add mul div of_int of_bits
card = record { m = refl; reduced = refl; m-bits = refl }

-- where nothing is accrued, and what comes before it
pub record Zeros : Type 0 where
  pub before_issue : accrued amounts_exactly long (on 2021 1 14) ≡ given (over (pos 0) 1)
  pub before_issue_bits : accrued amounts_in_f64 long (on 2021 1 14) ≡ given (of_bits binary64 0)
  pub on_issue : accrued amounts_exactly long (on 2021 1 15) ≡ given (over (pos 0) 6516000)
  pub last_period : accrued amounts_exactly example_note (on 2021 7 16) ≡ given (over (pos 0) 1)
  pub past_the_last : accrued amounts_exactly example_note (on 2030 1 1) ≡ given (over (pos 0) 1)
  pub zero_before_fraction : accrued amounts_exactly two_months (on 2021 1 14) ≡ given (over (pos 0) 1)
  pub fraction_on_issue : accrued amounts_exactly two_months (on 2021 1 15) ≡ refused 5
  pub zero_before_walk : accrued amounts_exactly at_the_end (on 9999 11 30) ≡ given (over (pos 0) 1)
  pub walk_before_zero : accrued amounts_exactly at_the_end (on 9999 12 31) ≡ refused 1
  pub no_date : accrued amounts_exactly long (on 2021 2 29) ≡ refused 1
  pub note-first : accrued amounts_exactly unrated (on 2021 2 29) ≡ refused 15

pub zeros : Zeros
unfolding is_note_number is_coupon_rate is_capital is_currency leap length_in month_length year_length days_before is_date is_before is_same day_number month_date coupon_date_of existing_date from_zero_to months_later months_frequency years_frequency frequency_of period_checks term_checks note_checks in_year_of first_coupon_end exact_fraction impossible simple_fraction walked_fraction frequent_fraction year_fraction next_period goes_on walked period_holding amount_due accrued_in accrued_from accrued_on accrued
zeros =
    record {
      before_issue = refl;
      before_issue_bits = refl;
      on_issue = refl;
      last_period = refl;
      past_the_last = refl;
      zero_before_fraction = refl;
      fraction_on_issue = refl;
      zero_before_walk = refl;
      walk_before_zero = refl;
      no_date = refl;
      note-first = refl;
    }

-- an end belongs to the period it closes; and the first period rolls from the issue date: 1 + 15/91
-- quarters, not 1 + 15/92
pub record Periods : Type 0 where
  pub on_the_end : accrued amounts_exactly long (on 2021 7 15) ≡ given (over (pos 130320000) 6516000)
  pub next-day : accrued amounts_exactly long (on 2021 7 16) ≡ given (over (pos 720000) 6624000)
  pub third : accrued amounts_exactly long (on 2022 2 15) ≡ given (over (pos 22320000) 6516000)
  pub rolled_from_issue : accrued amounts_exactly quarterly (on 2021 4 30) ≡ given (over (pos 44520000) 3822000)

pub periods : Periods
unfolding is_note_number is_coupon_rate is_capital is_currency leap length_in month_length year_length days_before is_date is_before is_same day_number month_date coupon_date_of existing_date from_zero_to months_later months_frequency years_frequency frequency_of period_checks term_checks note_checks in_year_of first_coupon_end exact_fraction impossible walked turn_on walk_on turn_back walk_back base_from short_parts first_part last_part to_last to_end to_first long_parts parts_from icma_parts simple_fraction walked_fraction frequent_fraction year_fraction next_period goes_on period_holding amount_due accrued_in accrued_from accrued_on accrued
periods = record { on_the_end = refl; next-day = refl; third = refl; rolled_from_issue = refl }
