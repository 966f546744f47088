-- Year fractions, exactly, by the five rules that need two dates alone; and the f64 of each, by
-- finql's operations in its order.
use Rattle.std.specs.Prelude.{ℕ, ◌-◌, ◌*◌, ◌≤◌, ◌≡◌, Bool, true, false, not, ◌||◌, eqb, ℤ, pos, ◌+ℤ◌, ◌-ℤ◌, ◌*ℤ◌, Float}
use Rattle.std.specs.Float.{binary64}
use Rattle.std.specs.Float.Ieee.{add, sub, div, of_int}
use Rattle.outcome.specs.Outcome.{pick, both}
use Rattle.calendar.specs.gregorian.Gregorian.{year_length}
use Rattle.calendar.specs.dates.Dates.{is_date, day_number, is_same}
use Rattle.calendar.specs.declared.dates.Date.{Date}
use Rattle.day_fraction.specs.Exact.{Exact, difference, is_zero}
use Rattle.day_fraction.specs.declared.SimpleRule.{SimpleRule}
use Rattle.day_fraction.specs.declared.SimpleRule.TheVariants.{Act365, Act360, Act365l, D30_360, D30E360}

-- two dates of the calendar, the start not after the end
pub record Span (start end : Date) : Type 0 where
  pub first : is_date start ≡ true
  pub last : is_date end ≡ true
  pub order : day_number start ≤ day_number end

-- the days between two dates; Y and M, the differences of year and month
abbrev pub days : Date → Date → ℤ
days s e = difference (day_number e) (day_number s)

abbrev pub years : Date → Date → ℤ
years s e = difference e.year s.year

abbrev pub months : Date → Date → ℤ
months s e = difference e.month s.month

-- the days since 1 January
unfoldable pub since_january : Date → ℕ
since_january t = day_number t - day_number (record { year = t.year; month = 1; day = 1 })

-- a 31 becomes 30
abbrev pub cut : ℕ → ℕ
cut d = pick (eqb d 31) 30 d

-- 30/360: end 31 becomes 30 if start is 30 or 31
abbrev pub end_day : ℕ → ℕ → ℕ
end_day s e = pick (eqb s 30 || eqb s 31) (cut e) e

-- D, the difference of the adjusted days. 30/360: start 31 becomes 30, and the end as above;
-- 30E/360: both 31s become 30
abbrev pub days30 : Date → Date → ℤ
days30 s e = difference (end_day s.day e.day) (cut s.day)

abbrev pub days30_e : Date → Date → ℤ
days30_e s e = difference (cut e.day) (cut s.day)

-- (360Y + 30M + D)/360
abbrev pub thirties : ℤ → ℤ → ℤ → Exact
thirties y m d = record { num = pos 360 *ℤ y +ℤ pos 30 *ℤ m +ℤ d; den = 360 }

-- Y + e/E - s/S, over E times S
abbrev pub leap_years : ℤ → ℕ → ℕ → ℕ → ℕ → Exact
leap_years y e E s S = record { num = y *ℤ pos (E * S) +ℤ pos (e * S) -ℤ pos (s * E); den = E * S }

-- the table of exact values
unfoldable pub exact_fraction : SimpleRule → Date → Date → Exact
exact_fraction Act365 s e = record { num = days s e; den = 365 }
exact_fraction Act360 s e = record { num = days s e; den = 360 }
exact_fraction Act365l s e = leap_years (years s e) (since_january e) (year_length e.year) (since_january s) (year_length s.year)
exact_fraction D30_360 s e = thirties (years s e) (months s e) (days30 s e)
exact_fraction D30E360 s e = thirties (years s e) (months s e) (days30_e s e)

-- a whole number as an f64, and the f64 of a / b
abbrev pub whole : ℤ → Float
whole z = of_int binary64 z

abbrev pub quotient : ℤ → ℕ → Float
quotient a b = div binary64 (whole a) (whole (pos b))

-- (Y + M/12) + D/360, and (Y + e/E) - s/S
abbrev pub thirties_bits : ℤ → ℤ → ℤ → Float
thirties_bits y m d = add binary64 (add binary64 (whole y) (quotient m 12)) (quotient d 360)

abbrev pub leap_bits : ℤ → ℕ → ℕ → ℕ → ℕ → Float
leap_bits y e E s S = sub binary64 (add binary64 (whole y) (quotient (pos e) E)) (quotient (pos s) S)

-- the f64 answer uses finql's operations in its order, with M signed
unfoldable pub bits : SimpleRule → Date → Date → Float
bits Act365 s e = quotient (days s e) 365
bits Act360 s e = quotient (days s e) 360
bits Act365l s e = leap_bits (years s e) (since_january e) (year_length e.year) (since_january s) (year_length s.year)
bits D30_360 s e = thirties_bits (years s e) (months s e) (days30 s e)
bits D30E360 s e = thirties_bits (years s e) (months s e) (days30_e s e)

-- 30/360 or 30E/360
abbrev pub counts_thirties : SimpleRule → Bool
counts_thirties Act365 = false
counts_thirties Act360 = false
counts_thirties Act365l = false
counts_thirties D30_360 = true
counts_thirties D30E360 = true

-- 9: 30/360 or 30E/360 is zero on two different dates
unfoldable pub impossible : SimpleRule → Date → Date → Bool
impossible rule s e = both (counts_thirties rule) (both (is_zero (exact_fraction rule s e).num) (not (is_same s e)))
