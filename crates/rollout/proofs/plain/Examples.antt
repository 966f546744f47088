-- The paper's own listing: the note's three flows, as a theorem about the definitions.
use mathlib.Core.Path.{◌≡◌, refl}
use mathlib.Core.Bool.{false}
use mathlib.Core.List.{[], ◌∷◌}
use lib.IntN.{pos}
use lib.Ieee.{Float, fin, add, mul, div, of_int}
use Rattle.outcome.specs.Outcome.{given, refused}
use Rattle.outcome.specs.Room.{counted, room_after}
use Rattle.calendar.specs.gregorian.Gregorian.{leap, length_in, month_length, year_length, days_before, unit_holding}
use Rattle.calendar.specs.dates.Dates.{is_date, is_day, day_number, year_of, in_year, the_date, month_date, is_before, is_same}
use Rattle.calendar.specs.serial.Answers.{date_of, weekday_of}
use Rattle.calendar.specs.declared.dates.Date.{Date}
use Rattle.date_step.specs.Steps.{from_zero_to, months_later, days_later, existing_date}
use Rattle.business_days.specs.table.Table.{ascends_from, is_table, is_listed}
use Rattle.business_days.specs.table.Business.{is_weekend, is_business, first_of, next_from, last_of, prev_from}
use Rattle.day_adjust.specs.Adjustment.{next_date, prev_date, modified_date, adjusted}
use Rattle.day_fraction.specs.Fractions.{exact_fraction, bits, impossible}
use Rattle.day_count_conv.specs.conventions.Conventions.{simple_fraction, year_fraction}
use Rattle.day_count_conv.specs.declared.conventions.DayCountConv.TheVariants as conv
use Rattle.day_adjust.specs.declared.DayAdjust.TheVariants as rule
use Rattle.time_period.specs.declared.steps.TimePeriodUnit.TheVariants as unit
use Rattle.coupon_date.specs.Coupons.{coupon_date_of}
use Rattle.cash_flow.specs.currency.Amounts.{is_capital, is_currency}
use Rattle.cash_flow.specs.declared.flow.CashFlow.{CashFlow}
use Rattle.bond.specs.note.Notes.{is_note_number, is_coupon_rate, is_position, period_checks, term_checks, note_checks, in_year_of, first_coupon_end, coupon_amount}
use Rattle.bond.specs.note.Example.{example_note}
use Rattle.bond.specs.declared.note.Note.{Note}
use Rattle.calendar.proofs.dates.Examples.{on}
use Rattle.bond.proofs.note.Examples.{euro}
use Rattle.bond.proofs.note.Examples as notes
use Rattle.note_flows.specs.flows.NoteFlows.{paid, coupon_flow, later_flows, note_flows, flow_day, amount_of}
use Rattle.rollout.specs.plain.Rollout.{cash_flows, fitted}

-- one, twenty and a thousand
abbrev pub one : Float
one = fin false 1 (pos 0)

abbrev pub twenty : Float
twenty = fin false 5 (pos 2)

abbrev pub thousand : Float
thousand = fin false 125 (pos 3)

abbrev pub flow : Date → Float → CashFlow
flow t x = record { date = t; currency = euro; amount = x }

-- 2021-07-15 20, 2022-01-17 20, 2022-01-17 1000: the 15th of January 2022 is a Saturday
pub the_listing : cash_flows example_note one [] ≡ given (flow (on 2021 7 15) twenty ∷ flow (on 2022 1 17) twenty ∷ flow (on 2022 1 17) thousand ∷ [])
unfolding leap length_in month_length year_length days_before unit_holding is_date is_day day_number year_of in_year the_date month_date is_before is_same date_of weekday_of from_zero_to months_later existing_date ascends_from is_table is_listed is_weekend is_business first_of next_from last_of prev_from next_date prev_date modified_date adjusted exact_fraction bits impossible simple_fraction year_fraction coupon_date_of is_capital is_currency is_note_number is_coupon_rate is_position period_checks term_checks note_checks in_year_of first_coupon_end coupon_amount paid coupon_flow later_flows note_flows cash_flows add mul div of_int
the_listing = refl

-- four places of room: three are written, and the fourth keeps its contents; two are too few
pub record Room : Type 0 where
  pub answer : counted (fitted example_note one [] (9 ∷ 9 ∷ 9 ∷ 9 ∷ []) (one ∷ one ∷ one ∷ one ∷ [])) ≡ given 3
  pub days : room_after flow_day (fitted example_note one [] (9 ∷ 9 ∷ 9 ∷ 9 ∷ []) (one ∷ one ∷ one ∷ one ∷ [])) (9 ∷ 9 ∷ 9 ∷ 9 ∷ []) ≡ 737986 ∷ 738172 ∷ 738172 ∷ 9 ∷ []
  pub amounts : room_after amount_of (fitted example_note one [] (9 ∷ 9 ∷ 9 ∷ 9 ∷ []) (one ∷ one ∷ one ∷ one ∷ [])) (one ∷ one ∷ one ∷ one ∷ []) ≡ twenty ∷ twenty ∷ thousand ∷ one ∷ []
  pub too_few_days : fitted example_note one [] (9 ∷ 9 ∷ []) (one ∷ one ∷ one ∷ one ∷ []) ≡ refused 16
  pub too_few_amounts : fitted example_note one [] (9 ∷ 9 ∷ 9 ∷ 9 ∷ []) (one ∷ one ∷ []) ≡ refused 16

pub room : Room
unfolding day_number days_before year_length month_length length_in leap
room = record { answer = rw the_listing; days = rw the_listing; amounts = rw the_listing; too_few_days = rw the_listing; too_few_amounts = rw the_listing }

-- a refusal beyond the room comes before 16: 10D from 9999-12-15 leaves the calendar after one more
-- coupon, and no place is lent
abbrev pub late : Note
late =
    record {
      number = example_note.number;
      issue_date = on 9999 11 15;
      maturity = on 9999 12 31;
      coupon_date = record { day = 15; month = 12 };
      period = notes.every (pos 10) unit.Daily;
      day_count_convention = conv.Act365;
      business_day_rule = rule.None;
      denomination = 1000;
      rate = example_note.rate;
      currency = euro;
    }

pub past_the_room : fitted late one [] [] [] ≡ refused 1
unfolding leap length_in month_length year_length days_before unit_holding is_date is_day day_number year_of in_year the_date is_before is_same date_of weekday_of from_zero_to days_later existing_date ascends_from is_table is_listed is_weekend is_business first_of next_from next_date adjusted exact_fraction bits impossible simple_fraction year_fraction coupon_date_of is_capital is_currency is_note_number is_coupon_rate is_position period_checks term_checks note_checks in_year_of first_coupon_end coupon_amount paid coupon_flow later_flows note_flows cash_flows mul div of_int
past_the_room = refl

-- and the note's own checks before its flows, whatever the room
pub position_first : fitted late (fin false 1953125 (pos 10)) (5 ∷ 5 ∷ []) [] [] ≡ refused 15
unfolding is_position note_checks is_note_number is_coupon_rate cash_flows
position_first = refl
