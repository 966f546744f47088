-- What a step of months, years or days leads to, from every date and by every signed number.
use Rattle.std.specs.Prelude.{ℕ, ◌≡◌, leb, ℤ, pos, negsuc, ◌+ℤ◌, Result}
use Rattle.outcome.specs.Outcome.{Outcome, given, refused, unless, and_then}
use Rattle.outcome.specs.Refusals.{outcome_of}
use Rattle.outcome.specs.declared.Refusal.{Refusal}
use Rattle.calendar.specs.dates.Dates.{is_date, day_number, month_index, month_date}
use Rattle.calendar.specs.serial.Answers.{date_of}
use Rattle.calendar.specs.declared.dates.Date.{Date}

-- a number from 0 to the last; 1 for any other
unfoldable pub from_zero_to : ℕ → ℤ → Outcome ℕ
from_zero_to last (pos k) = unless (leb k last) 1 (given k)
from_zero_to last (negsuc k) = refused 1

-- months: move the month, then cut the day to the month's last
unfoldable pub months_later : Date → ℤ → Outcome Date
months_later t n = and_then (from_zero_to 119987 (pos (month_index t) +ℤ n)) (λ i. given (month_date i t.day))

unfoldable pub add_months : Date → ℤ → Outcome Date
add_months t n = unless (is_date t) 1 (months_later t n)

-- years: the same month and day, refused if absent
unfoldable pub existing_date : Date → Outcome Date
existing_date t = unless (is_date t) 1 (given t)

unfoldable pub years_later : Date → ℤ → Outcome Date
years_later t n =
    and_then (from_zero_to 9999 (pos t.year +ℤ n))
    (λ y. existing_date (record { year = y; month = t.month; day = t.day }))

unfoldable pub add_years : Date → ℤ → Outcome Date
add_years t n = unless (is_date t) 1 (years_later t n)

-- days: the serial day that lies so many later or earlier
unfoldable pub days_later : Date → ℤ → Outcome Date
days_later t n = and_then (from_zero_to 3652059 (pos (day_number t) +ℤ n)) (λ k. date_of (record { 0 = k }))

unfoldable pub add_days : Date → ℤ → Outcome Date
add_days t n = unless (is_date t) 1 (days_later t n)

-- what the entry points promise of their result r
abbrev pub AddMonthsPromise : Date → ℤ → Result Date Refusal → Type 0
AddMonthsPromise t n r = outcome_of r ≡ add_months t n

abbrev pub AddYearsPromise : Date → ℤ → Result Date Refusal → Type 0
AddYearsPromise t n r = outcome_of r ≡ add_years t n

abbrev pub AddDaysPromise : Date → ℤ → Result Date Refusal → Type 0
AddDaysPromise t n r = outcome_of r ≡ add_days t n
