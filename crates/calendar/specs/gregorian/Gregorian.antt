-- The proleptic Gregorian calendar (ISO 8601), by counting: leap years, the lengths of months and
-- years, and the days before each.
use Rattle.std.specs.Prelude.{ℕ, zero, suc, ◌+◌, ◌-◌, ◌%◌, ◌≡◌, Bool, true, false, List, [], ◌∷◌, get_or, eqb, leb}
use Rattle.outcome.specs.Outcome.{pick}

-- every fourth year is a leap year, but of the hundreds only every fourth
unfoldable pub leap : ℕ → Bool
leap y = pick (eqb (y % 100) 0) (eqb (y % 400) 0) (eqb (y % 4) 0)

-- the lengths of the months, in a leap year or in another, January at 1
abbrev pub lengths : Bool → List ℕ
lengths b = 0 ∷ 31 ∷ pick b 29 28 ∷ 31 ∷ 30 ∷ 31 ∷ 30 ∷ 31 ∷ 31 ∷ 30 ∷ 31 ∷ 30 ∷ 31 ∷ []

-- a number of no month has no days
unfoldable pub length_in : Bool → ℕ → ℕ
length_in b m = get_or (lengths b) m 0

unfoldable pub month_length : ℕ → ℕ → ℕ
month_length y = length_in (leap y)

-- there is no year 0
unfoldable pub year_length : ℕ → ℕ
year_length zero = 0
year_length (suc n) = pick (leap (suc n)) 366 365

-- the sum of the first k values of f: f 0 + .. + f (k - 1)
unfoldable pub days_before : (ℕ → ℕ) → ℕ → ℕ
days_before f zero = 0
days_before f (suc k) = days_before f k + f k

-- the days before 1 January of a year, and the days of a year before the first of a month
abbrev pub before_year : ℕ → ℕ
before_year y = days_before year_length y

abbrev pub before_month : ℕ → ℕ → ℕ
before_month y m = days_before (month_length y) m

-- the unit (year or month) of length f in which the n-th day falls, counted from the start of unit
-- u: whole units are taken off
unfoldable pub unit_holding : (ℕ → ℕ) → ℕ → ℕ → ℕ → ℕ
unit_holding f zero u n = u
unit_holding f (suc k) u n = elim (leb n (f u)) [ true ↦ u | false ↦ unit_holding f k (suc u) (n - f u) ]

-- what the entry points promise of their result r
abbrev pub LeapPromise : ℕ → Bool → Type 0
LeapPromise y r = r ≡ leap y

abbrev pub MonthLengthPromise : ℕ → ℕ → ℕ → Type 0
MonthLengthPromise y m r = r ≡ month_length y m

abbrev pub YearLengthPromise : ℕ → ℕ → Type 0
YearLengthPromise y r = r ≡ year_length y
