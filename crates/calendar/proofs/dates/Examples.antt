-- Dates that document 01 names, and the calendar's ends, as theorems about the definitions.
use Prim.Native.Nat.{ℕ}
use mathlib.Core.Path.{◌≡◌, refl, ap}
use lib.Dec.{lit≤}
use Rattle.outcome.specs.Outcome.{Outcome, given, refused}
use Rattle.calendar.specs.gregorian.Gregorian.{leap, length_in, month_length, days_before}
use Rattle.calendar.specs.dates.Dates.{is_date, is_day, day_number}
use Rattle.calendar.specs.serial.Answers.{day_of, date_of, weekday_of}
use Rattle.calendar.specs.declared.dates.Date.{Date}
use Rattle.calendar.specs.declared.dates.Day.{Day}
use Rattle.calendar.proofs.dates.Dates.{number-by_rule}
use Rattle.calendar.proofs.dates.Inverse.{date-at}

abbrev pub on : ℕ → ℕ → ℕ → Date
on y m d = record { year = y; month = m; day = d }

abbrev day : ℕ → Day
day n = record { 0 = n }

abbrev numbered : ℕ → Outcome Day
numbered n = given (day n)

-- the serial days of the calendar's ends, and of a Saturday
pub first-number : day_number (on 1 1 1) ≡ 1
unfolding leap length_in month_length days_before
first-number = number-by_rule 1 1 1 (lit≤ tt)

pub last-number : day_number (on 9999 12 31) ≡ 3652059
unfolding leap length_in month_length days_before
last-number = number-by_rule 9999 12 31 (lit≤ tt)

pub saturday_number : day_number (on 2021 7 31) ≡ 738002
unfolding leap length_in month_length days_before
saturday_number = number-by_rule 2021 7 31 (lit≤ tt)

-- day 1 is 0001-01-01, a Monday; day 3652059 is 9999-12-31; there is none before or after
pub record Ends : Type 0 where
  pub first : day_of (on 1 1 1) ≡ given (day 1)
  pub monday : weekday_of (day 1) ≡ given 1
  pub last : date_of (day 3652059) ≡ given (on 9999 12 31)
  pub before-first : date_of (day 0) ≡ refused 1
  pub past-last : date_of (day 3652060) ≡ refused 1
  pub year_zero : day_of (on 0 12 31) ≡ refused 1
  pub year_ten_thousand : day_of (on 10000 1 1) ≡ refused 1
  pub month_zero : day_of (on 2021 0 1) ≡ refused 1
  pub month_thirteen : day_of (on 2021 13 1) ≡ refused 1

pub ends : Ends
unfolding leap length_in month_length is_date is_day day_of date_of weekday_of
ends =
    record {
      first = ap numbered first-number;
      monday = refl;
      last = date-at (on 9999 12 31) 3652059 refl last-number;
      before-first = refl;
      past-last = refl;
      year_zero = refl;
      year_ten_thousand = refl;
      month_zero = refl;
      month_thirteen = refl;
    }

-- 29 February
pub record LeapDays : Type 0 where
  pub in_1900 : day_of (on 1900 2 29) ≡ refused 1
  pub in_2000 : day_of (on 2000 2 29) ≡ given (day 730179)
  pub in_2023 : day_of (on 2023 2 29) ≡ refused 1
  pub in_2024 : day_of (on 2024 2 29) ≡ given (day 738945)

pub leap-days : LeapDays
unfolding leap length_in month_length days_before is_date day_of
leap-days =
    record {
      in_1900 = refl;
      in_2000 = ap numbered (number-by_rule 2000 2 29 (lit≤ tt));
      in_2023 = refl;
      in_2024 = ap numbered (number-by_rule 2024 2 29 (lit≤ tt));
    }

-- 2021-07-31 is a Saturday
pub saturday : weekday_of (day 738002) ≡ given 6
unfolding is_day weekday_of
saturday = refl

pub its_day : day_of (on 2021 7 31) ≡ given (day 738002)
unfolding leap length_in month_length is_date day_of
its_day = ap numbered saturday_number
