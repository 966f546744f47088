-- The desk card holds: steps, refusals, exact values and the amount by computing; how far off each
-- fraction is by the bound of all fractions.
use mathlib.Core.Path.{◌≡◌, refl, subst}
use lib.Dec.{lit≤}
use lib.Ieee.{add, mul, div, of_int, of_bits}
use Rattle.outcome.specs.Walks.{walked}
use Rattle.outcome.specs.Outcome.{Outcome}
use Rattle.calendar.specs.gregorian.Gregorian.{leap, length_in, month_length, year_length, days_before, unit_holding}
use Rattle.calendar.specs.dates.Dates.{is_date, is_day, is_before, is_same, day_number, year_of, in_year, the_date, month_date}
use Rattle.calendar.specs.serial.Answers.{date_of, weekday_of}
use Rattle.calendar.specs.declared.dates.Date.{Date}
use Rattle.date_step.specs.Steps.{existing_date, from_zero_to, months_later, years_later}
use Rattle.business_days.specs.table.Table.{ascends_from, is_table, is_listed}
use Rattle.business_days.specs.table.Business.{is_weekend, is_business, first_of, next_from, last_of, prev_from}
use Rattle.time_period.specs.steps.Periods.{months_frequency, years_frequency, frequency_of}
use Rattle.time_period.specs.steps.Steps.{inverse_of}
use Rattle.time_period.specs.added.Added.{add_to, sub_from}
use Rattle.coupon_date.specs.Coupons.{coupon_date_of}
use Rattle.day_adjust.specs.Adjustment.{next_date, prev_date, modified_date, adjusted, adjust_date}
use Rattle.day_fraction.specs.Exact.{Exact}
use Rattle.day_fraction.specs.Fractions.{since_january, exact_fraction, bits, impossible}
use Rattle.icma.specs.parts.Walk.{turn_on, walk_on, turn_back, walk_back, base_from, short_parts, first_part, last_part, to_last, to_end, to_first, long_parts, parts_from, icma_parts}
use Rattle.day_count_conv.specs.conventions.Conventions.{simple_fraction, walked_fraction, frequent_fraction, year_fraction, fractions_in_f64, fractions_exactly, FractionWithin}
use Rattle.day_count_conv.specs.declared.conventions.DayCountConv.{DayCountConv}
use Rattle.day_count_conv.specs.declared.conventions.NoteTerms.{NoteTerms}
use Rattle.day_count_conv.proofs.conventions.Bounds.{year_within}
use Rattle.cash_flow.specs.currency.Amounts.{is_capital, is_currency}
use Rattle.bond.specs.limits.Limits.{is_note_number, is_coupon_rate}
use Rattle.bond.specs.note.Notes.{period_checks, term_checks, note_checks, in_year_of, first_coupon_end}
use Rattle.accrued_interest.specs.note.Accrued.{next_period, goes_on, period_holding, amount_due, accrued_in, accrued_from, accrued_on, accrued}
use Rattle.desk_card.specs.Card.{Fraction, DeskCard}

-- an exact fraction is all that is left to show: the general bound says how far off its f64 is
line : (rule : DayCountConv) (start end : Date) (x : NoteTerms) (answer : Outcome Exact) → year_fraction fractions_exactly rule start end x ≡ answer → Fraction rule start end x answer
line rule start end x answer e = record { exact = e; close = subst (λ (o : Outcome Exact). FractionWithin (year_fraction fractions_in_f64 rule start end x) o) e (year_within rule start end x) }

pub desk_card : DeskCard
unfolding is_note_number is_coupon_rate is_capital is_currency leap length_in month_length year_length days_before unit_holding is_date is_day is_before is_same day_number year_of in_year the_date date_of weekday_of month_date coupon_date_of existing_date from_zero_to months_later years_later inverse_of add_to sub_from ascends_from is_table is_listed is_weekend is_business first_of next_from last_of prev_from next_date prev_date modified_date adjusted adjust_date months_frequency years_frequency frequency_of since_january exact_fraction bits impossible walked turn_on walk_on turn_back walk_back base_from short_parts first_part last_part to_last to_end to_first long_parts parts_from icma_parts simple_fraction walked_fraction frequent_fraction year_fraction period_checks term_checks note_checks in_year_of first_coupon_end next_period goes_on period_holding amount_due accrued_in accrued_from accrued_on accrued add mul div of_int of_bits
desk_card =
    record {
      a = refl;
      b = refl;
      c = refl;
      d = refl;
      f = refl;
      g = line _ _ _ _ _ refl;
      h = line _ _ _ _ _ refl;
      i_30_360 = line _ _ _ _ _ refl;
      i_30_e_360_lem = line _ _ _ _ _ refl;
      j = line _ _ _ _ _ refl;
      k = line _ _ _ _ _ refl;
      l = refl;
      m = record { exact = (lit≤ tt, refl); close = (lit≤ tt, (tt, lit≤ tt)) };
    }
