-- What each entry point of `calendar` answers, on every input.
use Rattle.std.specs.Prelude.{ℕ, ◌+◌, ◌-◌, ◌%◌, ◌≡◌, leb, Result}
use Rattle.outcome.specs.Outcome.{Outcome, given, returned, unless, both}
use Rattle.outcome.specs.Refusals.{outcome_of}
use Rattle.outcome.specs.declared.Refusal.{Refusal}
use Rattle.calendar.specs.dates.Dates.{is_date, is_day, day_number, the_date}
use Rattle.calendar.specs.declared.dates.Day.{Day}
use Rattle.calendar.specs.declared.dates.Days.{Days}
use Rattle.calendar.specs.declared.dates.Date.{Date}

-- the zeros, and what is returned of each answer
abbrev pub day_zero : Day
day_zero = record { 0 = 0 }

abbrev pub days_zero : Days
days_zero = record { 0 = 0 }

abbrev pub date_zero : Date
date_zero = record { year = 0; month = 0; day = 0 }

abbrev pub day_returned : Result Day Refusal → ℕ × Day
day_returned r = returned day_zero (outcome_of r)

abbrev pub days_returned : Result Days Refusal → ℕ × Days
days_returned r = returned days_zero (outcome_of r)

abbrev pub date_returned : Result Date Refusal → ℕ × Date
date_returned r = returned date_zero (outcome_of r)

abbrev pub weekday_returned : Result ℕ Refusal → ℕ × ℕ
weekday_returned r = returned 0 (outcome_of r)

-- 1: no such date
unfoldable pub day_of : Date → Outcome Day
day_of t = unless (is_date t) 1 (given (record { 0 = day_number t }))

-- 1: outside the calendar
unfoldable pub date_of : Day → Outcome Date
date_of d = unless (is_day d) 1 (given (the_date d.0))

-- Monday is 1 and Sunday 7; day 1 is a Monday
unfoldable pub weekday_of : Day → Outcome ℕ
weekday_of d = unless (is_day d) 1 (given ((d.0 + 6) % 7 + 1))

-- the difference of two serial days is a day count; 19: the first lies after the second
unfoldable pub days_between : Day → Day → Outcome Days
days_between a b = unless (both (is_day a) (is_day b)) 1 (unless (leb a.0 b.0) 19 (given (record { 0 = b.0 - a.0 })))

-- the sum of a serial day and a day count is a serial day
unfoldable pub day_after : Day → Days → Outcome Day
day_after d s = unless (both (is_day d) (leb (d.0 + s.0) 3652059)) 1 (given (record { 0 = d.0 + s.0 }))

-- what the entry points promise of their result r
abbrev pub DayOfPromise : Date → Result Day Refusal → Type 0
DayOfPromise t r = outcome_of r ≡ day_of t

abbrev pub DateOfPromise : Day → Result Date Refusal → Type 0
DateOfPromise d r = outcome_of r ≡ date_of d

abbrev pub WeekdayPromise : Day → Result ℕ Refusal → Type 0
WeekdayPromise d r = outcome_of r ≡ weekday_of d

abbrev pub DaysBetweenPromise : Day → Day → Result Days Refusal → Type 0
DaysBetweenPromise a b r = outcome_of r ≡ days_between a b

abbrev pub DayAfterPromise : Day → Days → Result Day Refusal → Type 0
DayAfterPromise d n r = outcome_of r ≡ day_after d n
