-- ICMA's main path, and the refusals in their order, as theorems about the definitions; the desk
-- card's fractions stand in `desk_card`.
use Rattle.std.specs.Prelude.{Some, None}
use mathlib.Core.Path.{◌≡◌, refl}
use lib.IntN.{ℤ, pos, negsuc}
use Rattle.outcome.specs.Walks.{walked}
use Rattle.outcome.specs.Outcome.{given, refused}
use Rattle.calendar.specs.dates.Dates.{is_date, is_before, is_same, day_number, month_date}
use Rattle.calendar.specs.declared.dates.Date.{Date}
use Rattle.calendar.specs.gregorian.Gregorian.{leap, length_in, month_length, year_length, days_before}
use Rattle.date_step.specs.Steps.{from_zero_to, months_later}
use Rattle.time_period.specs.steps.Periods.{months_frequency, years_frequency, frequency_of}
use Rattle.day_fraction.specs.Fractions.{since_january, exact_fraction, impossible}
use Rattle.icma.specs.parts.Walk.{turn_on, walk_on, turn_back, walk_back, base_from, short_parts, first_part, last_part, to_last, to_end, to_first, long_parts, parts_from, icma_parts}
use Rattle.day_count_conv.specs.conventions.Conventions.{simple_fraction, walked_fraction, frequent_fraction, year_fraction, fractions_exactly}
use Rattle.time_period.specs.declared.steps.TimePeriodUnit.TheVariants as unit
use Rattle.day_count_conv.specs.declared.conventions.DayCountConv.TheVariants as conv
use Rattle.day_count_conv.specs.declared.conventions.NoteTerms.{NoteTerms}
use Rattle.calendar.proofs.dates.Examples.{on}
use Rattle.day_fraction.proofs.Examples.{fraction as over}

abbrev none : NoteTerms
none = record { roll = None; period = None }

abbrev rolled : Date → ℤ → NoteTerms
rolled t n = record { roll = Some t; period = Some (record { num = n; unit = unit.Monthly }) }

-- ICMA's main path: whole periods and both broken parts. From 2020-02-29 to 2021-03-31, rolled by 3M
-- from 2020-08-31: 1 + 3 + 31/89, or 387/89 quarters
pub main_path : year_fraction fractions_exactly conv.ActActICMA (on 2020 2 29) (on 2021 3 31) (rolled (on 2020 8 31) (pos 3)) ≡ given (over (pos 387) 356)
unfolding leap length_in month_length year_length days_before is_date is_before is_same day_number month_date from_zero_to months_later months_frequency years_frequency frequency_of walked turn_on walk_on turn_back walk_back base_from short_parts first_part last_part to_last to_end to_first long_parts parts_from icma_parts walked_fraction frequent_fraction year_fraction
main_path = refl

-- the refusals in their order, and what other rules ignore
pub record Order : Type 0 where
  pub start_first : year_fraction fractions_exactly conv.ActActICMA (on 2021 2 29) (on 2021 1 1) none ≡ refused 1
  pub roll_date_before_order : year_fraction fractions_exactly conv.ActActICMA (on 2021 3 1) (on 2021 1 1) (rolled (on 2021 2 29) (pos 3)) ≡ refused 1
  pub roll_date_ignored : year_fraction fractions_exactly conv.Act365 (on 2021 1 1) (on 2021 1 2) (rolled (on 2021 2 29) (pos 0)) ≡ given (over (pos 1) 365)
  pub start_after_end : year_fraction fractions_exactly conv.ActActICMA (on 2021 3 1) (on 2021 1 1) none ≡ refused 19
  pub no_roll_date : year_fraction fractions_exactly conv.ActActICMA (on 2021 1 1) (on 2021 3 1) none ≡ refused 10
  pub no_period : year_fraction fractions_exactly conv.ActActICMA (on 2021 1 1) (on 2021 3 1) (record { roll = Some (on 2021 1 1); period = None }) ≡ refused 11
  pub no_frequency : year_fraction fractions_exactly conv.ActActICMA (on 2021 1 1) (on 2021 3 1) (rolled (on 2021 1 1) (pos 0)) ≡ refused 5
  pub below_one : year_fraction fractions_exactly conv.ActActICMA (on 2021 1 1) (on 2021 3 1) (rolled (on 2021 1 1) (negsuc 2)) ≡ refused 14
  pub out_of_calendar : year_fraction fractions_exactly conv.ActActICMA (on 1 1 2) (on 1 1 3) (rolled (on 1 1 3) (pos 1)) ≡ refused 1

pub order : Order
unfolding leap length_in month_length year_length days_before is_date is_before is_same day_number month_date from_zero_to months_later months_frequency years_frequency frequency_of since_january exact_fraction impossible walked turn_on walk_on turn_back walk_back base_from short_parts first_part last_part to_last to_end to_first long_parts parts_from icma_parts simple_fraction walked_fraction frequent_fraction year_fraction
order =
    record {
      start_first = refl;
      roll_date_before_order = refl;
      roll_date_ignored = refl;
      start_after_end = refl;
      no_roll_date = refl;
      no_period = refl;
      no_frequency = refl;
      below_one = refl;
      out_of_calendar = refl;
    }

-- where a step clips, the first broken part may be negative, and the whole may be 0 on two dates:
-- an answer, and no refusal
pub record Clipped : Type 0 where
  pub negative : year_fraction fractions_exactly conv.ActActICMA (on 2021 3 30) (on 2021 3 31) (rolled (on 2021 3 31) (pos 1)) ≡ given (over (negsuc 1) 336)
  pub zero_on_two_dates : year_fraction fractions_exactly conv.ActActICMA (on 2021 5 30) (on 2021 5 31) (rolled (on 2021 5 31) (pos 1)) ≡ given (over (pos 0) 360)

pub clipped : Clipped
unfolding leap length_in month_length year_length days_before is_date is_before day_number month_date from_zero_to months_later months_frequency frequency_of walked turn_on walk_on turn_back walk_back base_from short_parts first_part last_part to_last to_end to_first long_parts parts_from icma_parts walked_fraction frequent_fraction year_fraction
clipped = record { negative = refl; zero_on_two_dates = refl }
