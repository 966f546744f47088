-- Dates and serial days of the calendar, which runs from 0001-01-01, day 1, to 9999-12-31, day
-- 3652059.
use Rattle.std.specs.Prelude.{ℕ, ◌+◌, ◌-◌, ◌*◌, ◌/◌, ◌%◌, min, ◌≡◌, Bool, eqb, leb, ltb}
use Rattle.outcome.specs.Outcome.{pick, both}
use Rattle.calendar.specs.gregorian.Gregorian.{month_length, year_length, before_year, before_month, unit_holding}
use Rattle.calendar.specs.declared.dates.Day.{Day}
use Rattle.calendar.specs.declared.dates.Date.{Date}

-- a date of the calendar (a number that is no month's has no days)
unfoldable pub is_date : Date → Bool
is_date t = both (leb 1 t.year) (both (leb t.year 9999) (both (leb 1 t.day) (leb t.day (month_length t.year t.month))))

-- a serial day of the calendar
unfoldable pub is_day : Day → Bool
is_day d = both (leb 1 d.0) (leb d.0 3652059)

-- the serial day of a date
unfoldable pub day_number : Date → ℕ
day_number t = before_year t.year + before_month t.year t.month + t.day

-- the year of a serial day: whole years are taken off, from year 1
unfoldable pub year_of : ℕ → ℕ
year_of n = unit_holding year_length 9999 1 n

-- the e-th day of a year: whole months are taken off, from January
unfoldable pub in_year : ℕ → ℕ → Date
in_year y e =
    let m = unit_holding (month_length y) 12 1 e in
    record { year = y; month = m; day = e - before_month y m }

-- the date of a serial day
unfoldable pub the_date : ℕ → Date
the_date n = in_year (year_of n) (n - before_year (year_of n))

-- the number of a date's month, counted from January of year 1, which is 0
abbrev pub month_index : Date → ℕ
month_index t = 12 * (t.year - 1) + (t.month - 1)

-- the day d of the month with that number, cut to the month's last
unfoldable pub month_date : ℕ → ℕ → Date
month_date i d = record { year = i / 12 + 1; month = i % 12 + 1; day = min d (month_length (i / 12 + 1) (i % 12 + 1)) }

-- earlier by year, then by month, then by day
unfoldable pub is_before : Date → Date → Bool
is_before a b =
    pick (eqb a.year b.year)
    (pick (eqb a.month b.month) (ltb a.day b.day) (ltb a.month b.month))
    (ltb a.year b.year)

unfoldable pub is_same : Date → Date → Bool
is_same a b = both (eqb a.year b.year) (both (eqb a.month b.month) (eqb a.day b.day))

-- what the entry points promise of their result r
abbrev pub IsDatePromise : Date → Bool → Type 0
IsDatePromise t r = r ≡ is_date t

abbrev pub IsDayPromise : Day → Bool → Type 0
IsDayPromise d r = r ≡ is_day d

abbrev pub BeforePromise : Date → Date → Bool → Type 0
BeforePromise a b r = r ≡ is_before a b

abbrev pub SamePromise : Date → Date → Bool → Type 0
SamePromise a b r = r ≡ is_same a b
