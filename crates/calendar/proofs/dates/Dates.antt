-- Dates and serial days: the bounds of a date, and that each is found again from the other.
use Prim.Native.Nat.{ℕ, suc, ◌+◌, ◌-◌, ◌*◌, ◌/◌, ◌≤◌, ◌<◌}
use mathlib.Core.Path.{◌≡◌, sym, ◌∙◌, ap}
use mathlib.Core.Bool.{true, false}
use mathlib.Mathlib.Data.Bool.Basic.{eq-false_of_not-eq-true}
use native.Mathlib.Omega.{arith}
use borrow.Author.Tests.{le-leb, leb-true}
use Rattle.outcome.proofs.Numbers.{between}
use Rattle.outcome.proofs.Outcomes.{both_true}
use Rattle.calendar.specs.gregorian.Gregorian.{month_length, year_length, before_year, before_month, unit_holding}
use Rattle.calendar.specs.dates.Dates.{is_date, is_day, day_number, year_of, in_year, the_date}
use Rattle.calendar.specs.declared.dates.Day.{Day}
use Rattle.calendar.specs.declared.dates.Date.{Date}
use Rattle.calendar.proofs.gregorian.Months.{is_month, year_of-months, before-first}
use Rattle.calendar.proofs.gregorian.Counting.{before-suc, before_mono, unit-at, unit_in, Falls}
use Rattle.calendar.proofs.gregorian.Years.{last-day, before-one, by_rule_of_leaps}

pub record IsDate (t : Date) : Type 0 where
  pub year_from : 1 ≤ t.year
  pub year_to : t.year ≤ 9999
  pub month_from : 1 ≤ t.month
  pub month_to : t.month ≤ 12
  pub day-from : 1 ≤ t.day
  pub day-to : t.day ≤ month_length t.year t.month

pub date-yes : (t : Date) → is_date t ≡ true → IsDate t
unfolding is_date
date-yes t e =
    let a = both_true _ _ e in
    let b = both_true _ _ a.1 in
    let d = both_true _ _ b.1 in
    let y1 : 1 ≤ t.year = leb-true _ _ a.0 in
    let y2 : t.year ≤ 9999 = leb-true _ _ b.0 in
    let d1 : 1 ≤ t.day = leb-true _ _ d.0 in
    let d2 : t.day ≤ month_length t.year t.month = leb-true _ _ d.1 in
    let m = is_month t.year t.month (omega arith) in
    record { year_from = y1; year_to = y2; month_from = m.0; month_to = m.1; day-from = d1; day-to = d2 }

pub date_is : (t : Date) → IsDate t → is_date t ≡ true
unfolding is_date
date_is t h =
    simp (
      le-leb 1 t.year h.year_from,
      le-leb t.year 9999 h.year_to,
      le-leb 1 t.day h.day-from,
      le-leb t.day (month_length t.year t.month) h.day-to,
    )

pub no_date : (t : Date) → (IsDate t → ⊥) → false ≡ is_date t
no_date t h = sym (eq-false_of_not-eq-true (λ e. h (date-yes t e)))

pub day-yes : (d : Day) → is_day d ≡ true → (1 ≤ d.0) × (d.0 ≤ 3652059)
unfolding is_day
day-yes d e = between 1 d.0 3652059 e

pub day_is : (d : Day) → 1 ≤ d.0 → d.0 ≤ 3652059 → is_day d ≡ true
unfolding is_day
day_is d h k = simp (le-leb 1 d.0 h, le-leb d.0 3652059 k)

-- the day within the year
pub within_year : (t : Date) → IsDate t → before_month t.year t.month + t.day ≤ year_length t.year
within_year t h =
    omega (
      arith,
      before-suc (month_length t.year) t.month,
      before_mono (month_length t.year) (suc t.month) 13 (omega arith),
      year_of-months t.year h.year_from,
    )

-- a date's serial day lies in the calendar
pub number-to : (t : Date) → IsDate t → day_number t ≤ 3652059
unfolding day_number
number-to t h =
    omega (arith, within_year t h, before-suc year_length t.year, before_mono year_length (suc t.year) 10000 (omega arith), last-day)

pub number-from : (t : Date) → IsDate t → 1 ≤ day_number t
unfolding day_number
number-from t h = omega arith

-- a date's serial day, without a count of each year before it
pub number-by_rule : (y m d : ℕ) → 1 ≤ y → day_number (record { year = y; month = m; day = d }) ≡ 365 * (y - 1) + (y - 1) / 4 - (y - 1) / 100 + (y - 1) / 400 + before_month y m + d
unfolding day_number
number-by_rule y m d h = ap (λ (n : ℕ). n + before_month y m + d) (sym (by_rule_of_leaps y h))

-- a date is found again from its serial day
year_found : (t : Date) → IsDate t → year_of (day_number t) ≡ t.year
unfolding year_of day_number
year_found t h =
    unit-at year_length 9999 1 t.year _ h.year_from (omega arith) (omega (arith, before-one))
    (omega (arith, before-one, within_year t h, before-suc year_length t.year))

in_year-at : (y m d : ℕ) → 1 ≤ m → m ≤ 12 → 1 ≤ d → d ≤ month_length y m → in_year y (before_month y m + d) ≡ record { year = y; month = m; day = d }
unfolding in_year
in_year-at y m d h k p q =
    let e = before_month y m + d in
    let s : unit_holding (month_length y) 12 1 e ≡ m =
    unit-at (month_length y) 12 1 m e h (omega arith) (omega (arith, before-first y))
    (omega (arith, before-first y, before-suc (month_length y) m)) in
    rw s (λ i. record { year = y; month = m; day = (let z : e - before_month y m ≡ d = omega arith in z) i })

pub date_found : (t : Date) → IsDate t → the_date (day_number t) ≡ t
unfolding the_date day_number
date_found t h =
    rw (year_found t h)
    (ap (in_year t.year) (let z : day_number t - before_year t.year ≡ before_month t.year t.month + t.day = omega arith in z)
    ∙ in_year-at t.year t.month t.day h.month_from h.month_to h.day-from h.day-to)

-- every serial day of the calendar has a date
pub year_in : (n : ℕ) → 1 ≤ n → n ≤ 3652059 → Falls year_length 9999 1 n (year_of n)
unfolding year_of
year_in n h k = unit_in year_length 9999 1 n h (omega (arith, before-one, last-day))

module _ (y e : ℕ) (h : 1 ≤ y) (p : 1 ≤ e) (q : e ≤ year_length y) where
  month_in : Falls (month_length y) 12 1 e (unit_holding (month_length y) 12 1 e)
  month_in = unit_in (month_length y) 12 1 e p (omega (arith, before-first y, year_of-months y h))

  pub in_year_is : y ≤ 9999 → IsDate (in_year y e)
  unfolding in_year
  in_year_is k =
      let s = month_in in
      record {
        year_from = h;
        year_to = k;
        month_from = s.from;
        month_to = omega (arith, s.to);
        day-from = omega (arith, s.after, before-first y);
        day-to = omega (arith, s.until, before-first y, before-suc (month_length y) (unit_holding (month_length y) 12 1 e));
      }

  in_year-number : before_month y (in_year y e).month + (in_year y e).day ≡ e
  unfolding in_year
  in_year-number = let s = month_in in omega (arith, s.after, before-first y)

-- a serial day's year, and the day within it
pub record InYear (n : ℕ) : Type 0 where
  pub from : 1 ≤ year_of n
  pub to : year_of n ≤ 9999
  pub after : before_year (year_of n) < n
  pub rest : n - before_year (year_of n) ≤ year_length (year_of n)

pub day-in_year : (n : ℕ) → 1 ≤ n → n ≤ 3652059 → InYear n
day-in_year n h k =
    let s = year_in n h k in
    record {
      from = s.from;
      to = omega (arith, s.to);
      after = omega (arith, s.after, before-one);
      rest = omega (arith, s.until, before-one, before-suc year_length (year_of n));
    }

pub the_date_is : (n : ℕ) → 1 ≤ n → n ≤ 3652059 → IsDate (the_date n)
unfolding the_date
the_date_is n h k =
    let s = day-in_year n h k in
    in_year_is (year_of n) (n - before_year (year_of n)) s.from (omega (arith, s.after)) s.rest s.to

-- and it is that day's
pub number_found : (n : ℕ) → 1 ≤ n → n ≤ 3652059 → day_number (the_date n) ≡ n
unfolding the_date day_number in_year
number_found n h k =
    let s = day-in_year n h k in
    omega (arith, s.after, in_year-number (year_of n) (n - before_year (year_of n)) s.from (omega (arith, s.after)) s.rest)
