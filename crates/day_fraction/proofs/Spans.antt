-- Two dates of which the first is not after the second: how their years, months and days stand to
-- each other.
use mathlib.Core.Path.{◌≡◌, ap}
use Prim.Native.Nat.{◌+◌, ◌-◌, ◌≤◌, ◌<◌}
use native.Mathlib.Omega.{arith}
use Rattle.calendar.specs.gregorian.Gregorian.{year_length, before_year, before_month}
use Rattle.calendar.proofs.gregorian.Months.{before-first, at_most}
use Rattle.calendar.specs.dates.Dates.{day_number, month_index}
use Rattle.calendar.specs.declared.dates.Date.{Date}
use Rattle.calendar.proofs.dates.Dates.{IsDate, within_year}
use Rattle.calendar.proofs.dates.Order.{same_month, month_order}
use Rattle.day_fraction.specs.Fractions.{since_january}

-- the days since 1 January are those before the month and those before the day
pub since_is : (t : Date) → IsDate t → since_january t ≡ before_month t.year t.month + t.day - 1
unfolding since_january day_number
since_is t h = omega (arith, before-first t.year)

-- they are fewer than the year has
pub since_below : (t : Date) → IsDate t → since_january t < year_length t.year
since_below t h = omega (arith, since_is t h, within_year t h, h.day-from)

-- a month has at most 31 days
pub day-most : (t : Date) → IsDate t → t.day ≤ 31
day-most t h = omega (arith, h.day-to, at_most t.year t.month)

-- the start is not after the end, by year, by month, and by day within either
pub record InOrder (s e : Date) : Type 0 where
  pub years : s.year ≤ e.year
  pub months : month_index s ≤ month_index e
  pub in_year_lem : s.year ≡ e.year → since_january s ≤ since_january e
  pub in_month_lem : s.year ≡ e.year → s.month ≡ e.month → s.day ≤ e.day

pub in_order : (s e : Date) → IsDate s → IsDate e → day_number s ≤ day_number e → InOrder s e
unfolding day_number
in_order s e h k l =
    let after : month_index e < month_index s → ⊥ = λ m. omega (arith, month_order e s k h m) in
    let m : month_index s ≤ month_index e = omega (arith, after) in
    record {
      years = omega (arith, m, h.month_from, k.month_from, h.month_to, k.month_to, h.year_from, k.year_from);
      months = m;
      in_year_lem = λ y. omega (arith, since_is s h, since_is e k, ap before_year y, h.day-from, k.day-from);
      in_month_lem = λ y n. omega (arith, same_month s e h k y n);
    }
