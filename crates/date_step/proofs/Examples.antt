-- Fifteen months back, and the ends of the signed numbers, as theorems about the definitions; the
-- desk card's steps stand in `desk_card`.
use Prim.Native.Nat.{ℕ}
use mathlib.Core.Path.{◌≡◌, refl, ap, ◌∙◌}
use lib.IntN.{ℤ, pos, negsuc, ◌+ℤ◌}
use Rattle.outcome.specs.Outcome.{Outcome, given, refused, and_then}
use Rattle.calendar.specs.gregorian.Gregorian.{leap, length_in, month_length}
use Rattle.calendar.specs.dates.Dates.{is_date, is_day, month_date}
use Rattle.calendar.specs.serial.Answers.{date_of}
use Rattle.calendar.specs.declared.dates.Date.{Date}
use Rattle.calendar.proofs.dates.Examples.{first-number, last-number}
use Rattle.calendar.proofs.dates.Inverse.{date-at}
use Rattle.date_step.specs.Steps.{from_zero_to, months_later, add_months, existing_date, years_later, add_years, days_later, add_days}
use Rattle.calendar.proofs.dates.Examples.{on}

-- 2021-03-15 -15M
pub fifteen_back : add_months (on 2021 3 15) (negsuc 14) ≡ given (on 2019 12 15)
unfolding leap length_in month_length is_date month_date from_zero_to months_later add_months
fifteen_back = refl

-- so many days later, from a serial day
abbrev pub on_from : ℤ → ℕ → Outcome Date
on_from n k = and_then (from_zero_to 3652059 (pos k +ℤ n)) (λ i. date_of (record { 0 = i }))

-- the least and the greatest 32-bit number, in every step
pub record Extremes : Type 0 where
  pub least_months : add_months (on 9999 12 31) (negsuc 2147483647) ≡ refused 1
  pub most-months : add_months (on 1 1 1) (pos 2147483647) ≡ refused 1
  pub least_years : add_years (on 9999 12 31) (negsuc 2147483647) ≡ refused 1
  pub most-years : add_years (on 1 1 1) (pos 2147483647) ≡ refused 1
  pub least_days : add_days (on 9999 12 31) (negsuc 2147483647) ≡ refused 1
  pub most-days : add_days (on 1 1 1) (pos 2147483647) ≡ refused 1
  pub whole_calendar : add_days (on 1 1 1) (pos 3652058) ≡ given (on 9999 12 31)

pub extremes : Extremes
unfolding leap length_in month_length is_date from_zero_to months_later add_months years_later add_years days_later add_days
extremes =
    record {
      least_months = refl;
      most-months = refl;
      least_years = refl;
      most-years = refl;
      least_days = ap (on_from (negsuc 2147483647)) last-number;
      most-days = ap (on_from (pos 2147483647)) first-number;
      whole_calendar = ap (on_from (pos 3652058)) first-number ∙ date-at (on 9999 12 31) 3652059 refl last-number;
    }

-- one step past either end
pub record Past : Type 0 where
  pub a-day : add_days (on 9999 12 31) (pos 1) ≡ refused 1
  pub a_month : add_months (on 9999 12 31) (pos 1) ≡ refused 1
  pub a_year : add_years (on 9999 12 31) (pos 1) ≡ refused 1

pub past : Past
unfolding leap length_in month_length is_date from_zero_to months_later add_months years_later add_years days_later add_days
past = record { a-day = ap (on_from (pos 1)) last-number; a_month = refl; a_year = refl }

pub record Before : Type 0 where
  pub a-day : add_days (on 1 1 1) (negsuc 0) ≡ refused 1
  pub a_month : add_months (on 1 1 1) (negsuc 0) ≡ refused 1
  pub a_year : add_years (on 1 1 1) (negsuc 0) ≡ refused 1

pub before_all : Before
unfolding leap length_in month_length is_date is_day date_of from_zero_to months_later add_months existing_date years_later add_years days_later add_days
before_all = record { a-day = ap (on_from (negsuc 0)) first-number; a_month = refl; a_year = refl }
