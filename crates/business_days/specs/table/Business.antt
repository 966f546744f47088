-- Business days, the next and the previous one, and steps over several.
use Rattle.std.specs.Prelude.{ℕ, zero, suc, ◌+◌, ◌-◌, Bool, true, false, ◌||◌, not, List, leb}
use Rattle.outcome.specs.Outcome.{Outcome, given, refused, value, and_then}
use Rattle.calendar.specs.serial.Answers.{weekday_of}
use Rattle.calendar.specs.declared.dates.Day.{Day}
use Rattle.business_days.specs.table.Table.{is_listed}

-- the serial day n
abbrev pub serial_day : ℕ → Day
serial_day n = record { 0 = n }

-- Saturday is weekday 6 and Sunday 7
unfoldable pub is_weekend : ℕ → Bool
is_weekend n = leb 6 (value 0 (weekday_of (serial_day n)))

-- Saturdays, Sundays and listed days are not business days
unfoldable pub is_business : List ℕ → ℕ → Bool
is_business t n = not (is_weekend n || is_listed n t)

-- the first business day of those from n on, of which the calendar has `left`; 1: there is none
unfoldable pub first_of : ℕ → List ℕ → ℕ → Outcome Day
first_of zero t n = refused 1
first_of (suc left) t n = elim (is_business t n) [ true ↦ given (serial_day n) | false ↦ first_of left t (n + 1) ]

-- the next business day is strictly later
unfoldable pub next_from : List ℕ → ℕ → Outcome Day
next_from t n = first_of (3652059 - n) t (n + 1)

-- the last business day of those up to n, which begin with day 1; 1: there is none
unfoldable pub last_of : List ℕ → ℕ → Outcome Day
last_of t zero = refused 1
last_of t (suc n) = elim (is_business t (suc n)) [ true ↦ given (serial_day (suc n)) | false ↦ last_of t n ]

-- the previous business day is strictly earlier
unfoldable pub prev_from : List ℕ → ℕ → Outcome Day
prev_from t n = last_of t (n - 1)

-- k steps, refused as soon as one is; 0 steps stay on the day, a business day or not
unfoldable pub repeated : (ℕ → Outcome Day) → ℕ → ℕ → Outcome Day
repeated step zero n = given (serial_day n)
repeated step (suc k) n = and_then (step n) (λ e. repeated step k e.0)

-- k business days on, and k business days back
abbrev pub later_from : List ℕ → ℕ → ℕ → Outcome Day
later_from t k n = repeated (next_from t) k n

abbrev pub earlier_from : List ℕ → ℕ → ℕ → Outcome Day
earlier_from t k n = repeated (prev_from t) k n
