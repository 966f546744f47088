-- The order of dates, by year, month and day, is that of their serial days; and the months in their
-- order.
use Prim.Native.Nat.{ℕ, suc, ◌+◌, ◌/◌, ◌%◌, ◌≤◌, ◌<◌, min}
use mathlib.Core.Path.{◌≡◌, refl, sym, ◌∙◌, ap}
use mathlib.Core.Bool.{Bool, true, false}
use mathlib.Mathlib.Data.Bool.Basic.{eq-true_of_not-eq-false, eq-false_of_not-eq-true}
use native.Mathlib.Omega.{arith}
use native.Mathlib.Decide.{dec_lt}
use lib.Dec.{eqb, ltb}
use borrow.Author.Tests.{eqb-true, eqb-false, ltb-true, ltb-false, eq-eqb}
use Rattle.outcome.specs.Outcome.{pick}
use Rattle.outcome.proofs.Outcomes.{both_true}
use Rattle.calendar.specs.gregorian.Gregorian.{month_length, year_length, before_year, before_month}
use Rattle.calendar.specs.dates.Dates.{day_number, the_date, month_index, month_date, is_before, is_same}
use Rattle.calendar.specs.declared.dates.Date.{Date}
use Rattle.calendar.proofs.gregorian.Counting.{before-suc, before_mono}
use Rattle.calendar.proofs.dates.Dates.{IsDate, within_year, date_found}
use Rattle.calendar.proofs.gregorian.Months.{at_most, at_least, year_of-months, before-first}

-- an earlier year, or an earlier month of one year: an earlier day
module _ (t u : Date) (h : IsDate t) (k : IsDate u) where
  earlier_year : t.year < u.year → day_number t < day_number u
  unfolding day_number
  earlier_year e =
      omega (arith, within_year t h, before-suc year_length t.year, before_mono year_length (suc t.year) u.year e, k.day-from)

  earlier_month : t.year ≡ u.year → t.month < u.month → day_number t < day_number u
  unfolding day_number
  earlier_month s e =
      omega (
        arith,
        before-suc (month_length t.year) t.month,
        before_mono (month_length t.year) (suc t.month) u.month e,
        k.day-from,
        h.day-to,
        ap before_year s,
        ap (λ (y : ℕ). before_month y u.month) s,
      )

  -- in one month the days are as far apart as the serial days
  pub same_month : t.year ≡ u.year → t.month ≡ u.month → day_number t + u.day ≡ day_number u + t.day
  unfolding day_number
  same_month s m =
      omega (arith, ap before_year s, ap (λ (y : ℕ). before_month y u.month) s, ap (before_month t.year) m)

  -- a month's number tells its year and the month within it
  pub one_month : month_index t ≡ month_index u → (t.year ≡ u.year) × (t.month ≡ u.month)
  one_month e =
      let y : t.year ≡ u.year = omega (arith, h.month_to, k.month_to, h.month_from, k.month_from, h.year_from, k.year_from) in
      (y, omega (arith, h.month_from, k.month_from))

  -- a later month by its number: a later day
  pub month_order : month_index t < month_index u → day_number t < day_number u
  month_order l = by (dec_lt t.year u.year)
    where
      by : Dec (t.year < u.year) → day_number t < day_number u
      by (yes e) = earlier_year e
      by (no e) =
          let s : t.year ≡ u.year = omega (arith, h.month_to, k.month_from, h.year_from, k.year_from, h.month_from, k.month_to) in
          earlier_month s (omega (arith, h.month_from, k.month_from))

  pub before-days : is_before t u ≡ true → day_number t < day_number u
  unfolding is_before
  before-days e = by (eqb t.year u.year) (eqb t.month u.month) refl refl e
    where
      by : (b c : Bool) → eqb t.year u.year ≡ b → eqb t.month u.month ≡ c → pick b (pick c (ltb t.day u.day) (ltb t.month u.month)) (ltb t.year u.year) ≡ true → day_number t < day_number u
      by true true p q r =
          omega (arith, same_month (eqb-true t.year u.year p) (eqb-true t.month u.month q), ltb-true t.day u.day r)
      by true false p q r = earlier_month (eqb-true t.year u.year p) (ltb-true t.month u.month r)
      by false c p q r = earlier_year (ltb-true t.year u.year r)

-- where one is not before the other, the other is not after it
pub not-before : (t u : Date) → IsDate t → IsDate u → is_before t u ≡ false → day_number u ≤ day_number t
unfolding is_before
not-before t u h k e = by (eqb t.year u.year) (eqb t.month u.month) refl refl e
  where
    by : (b c : Bool) → eqb t.year u.year ≡ b → eqb t.month u.month ≡ c → pick b (pick c (ltb t.day u.day) (ltb t.month u.month)) (ltb t.year u.year) ≡ false → day_number u ≤ day_number t
    by true true p q r =
        omega (arith, same_month t u h k (eqb-true t.year u.year p) (eqb-true t.month u.month q), ltb-false t.day u.day r)
    by true false p q r =
        let n = eqb-false t.month u.month q in
        let l : u.month < t.month = omega (arith, ltb-false t.month u.month r, n) in
        omega (arith, earlier_month u t k h (sym (eqb-true t.year u.year p)) l)
    by false c p q r =
        let n = eqb-false t.year u.year p in
        let l : u.year < t.year = omega (arith, ltb-false t.year u.year r, n) in
        omega (arith, earlier_year u t k h l)

pub days-before : (t u : Date) → IsDate t → IsDate u → day_number t < day_number u → is_before t u ≡ true
days-before t u h k l = eq-true_of_not-eq-false (λ e. omega (arith, not-before t u h k e))

pub days_not_before : (t u : Date) → IsDate t → IsDate u → day_number u ≤ day_number t → is_before t u ≡ false
days_not_before t u h k l = eq-false_of_not-eq-true (λ e. omega (arith, before-days t u h k e))

-- two dates of one serial day are one date
pub same-day : (t u : Date) → IsDate t → IsDate u → day_number t ≡ day_number u → t ≡ u
same-day t u h k e = sym (date_found t h) ∙ ap the_date e ∙ date_found u k

pub same-yes : (t u : Date) → is_same t u ≡ true → t ≡ u
unfolding is_same
same-yes t u e =
    let a = both_true _ _ e in
    let b = both_true _ _ a.1 in
    let y : t.year ≡ u.year = eqb-true _ _ a.0 in
    let m : t.month ≡ u.month = eqb-true _ _ b.0 in
    let d : t.day ≡ u.day = eqb-true _ _ b.1 in
    λ i. record { year = y i; month = m i; day = d i }

pub same_is : (t : Date) → is_same t t ≡ true
unfolding is_same
same_is t = rw (eq-eqb t.year t.year refl, eq-eqb t.month t.month refl, eq-eqb t.day t.day refl)

-- the order is kept both ways
pub record Ordered (t u : Date) : Type 0 where
  pub to-days : is_before t u ≡ true → day_number t < day_number u
  pub from-days : day_number t < day_number u → is_before t u ≡ true
  pub otherwise : is_before t u ≡ false → day_number u ≤ day_number t
  pub one-day : day_number t ≡ day_number u → t ≡ u

pub ordered : (t u : Date) → IsDate t → IsDate u → Ordered t u
ordered t u h k =
    record { to-days = before-days t u h k; from-days = days-before t u h k; otherwise = not-before t u h k; one-day = same-day t u h k }

-- the date of a month's number
pub record InMonth (i d : ℕ) (u : Date) : Type 0 where
  pub dated : IsDate u
  pub index : month_index u ≡ i
  pub cut : u.day ≡ min d (month_length u.year u.month)

pub month_date_lem : (i d : ℕ) → 1 ≤ d → i ≤ 119987 → InMonth i d (month_date i d)
unfolding month_date
month_date_lem i d h k =
    let l = at_least (i / 12 + 1) (i % 12 + 1) (omega arith) (omega arith) in
    record {
      dated = record { year_from = omega arith; year_to = omega arith; month_from = omega arith; month_to = omega arith; day-from = omega arith; day-to = omega arith };
      index = omega arith;
      cut = refl;
    }

-- a month's number is below 119988
pub index_to : (t : Date) → IsDate t → month_index t ≤ 119987
index_to t h = omega (arith, h.year_to, h.month_to)

first_after_last : (y m x n : ℕ) → 1 ≤ n → n ≤ 12 → before_year x + before_month x n ≡ before_year y + before_month y m + month_length y m → before_year x + before_month x n + min 1 (month_length x n) ≡ suc (before_year y + before_month y m + min 31 (month_length y m))
first_after_last y m x n p q e = omega (arith, at_most y m, at_least x n p q)

-- each month's first day follows the last day of the month before it
pub next_month : (i : ℕ) → suc i ≤ 119987 → day_number (month_date (suc i) 1) ≡ suc (day_number (month_date i 31))
unfolding month_date day_number
next_month i h =
    first_after_last (i / 12 + 1) (i % 12 + 1) (suc i / 12 + 1) (suc i % 12 + 1) (omega arith) (omega arith)
    (by (i / 12 + 1) (i % 12 + 1) (suc i / 12 + 1) (suc i % 12 + 1) (dec_lt (i % 12) 11) (omega arith) (λ l. (omega arith, omega arith)) (λ l. (omega arith, omega arith, omega arith)))
  where
    by : (y m x n : ℕ) → Dec (i % 12 < 11) → 1 ≤ y → (i % 12 < 11 → (x ≡ y) × (n ≡ suc m)) → ((i % 12 < 11 → ⊥) → (x ≡ suc y) × (n ≡ 1) × (m ≡ 12)) → before_year x + before_month x n ≡ before_year y + before_month y m + month_length y m
    by y m x n (yes l) p a b = let e = a l in rw (e.0, e.1) (omega (arith, before-suc (month_length y) m))
    by y m x n (no l) p a b =
        let e = b l in
        rw (e.0, e.1, e.2)
        (omega (arith, before-suc (month_length y) 12, before-suc year_length y, year_of-months y p, before-first (suc y)))
