-- Serial days counted from March: the day of a date, and the date of a day.
use Prim.Native.Nat.{ℕ, zero, suc, ◌+◌, ◌-◌, ◌*◌, ◌/◌, ◌%◌, ◌≤◌, ◌<◌}
use mathlib.Core.Path.{◌≡◌, refl, sym, ◌∙◌, ap}
use mathlib.Core.Bool.{true}
use native.Mathlib.Omega.{arith}
use native.Mathlib.Numerals.{add-one}
use native.Mathlib.Decide.{dec_lt}
use lib.Dec.{eqb}
use borrow.Author.Tests.{eqb-true}
use Rattle.outcome.specs.Outcome.{both}
use Rattle.outcome.proofs.Outcomes.{both_true}
use Rattle.calendar.specs.gregorian.Gregorian.{month_length, year_length, before_year}
use Rattle.calendar.proofs.gregorian.Counting.{before-suc, before_mono}
use Rattle.calendar.proofs.gregorian.Months.{from_march_lem, to_march, year_least, year_most}
use Rattle.calendar.proofs.gregorian.Table.{passes, passes_at}
use Rattle.calendar.proofs.gregorian.Years.{closed, by_rule_of_leaps, before-one, last-day}
use Rattle.calendar.specs.dates.Dates.{day_number, the_date}
use Rattle.calendar.specs.declared.dates.Date.{Date}
use Rattle.calendar.proofs.dates.Dates.{IsDate, date_found}

-- the days before a month, 3 to 14, of a year that begins in March
abbrev months_from : ℕ → ℕ
months_from m = (153 * (m - 3) + 2) / 5

abbrev from_march : ℕ → ℕ → ℕ
from_march y m = 365 * y + y / 4 - y / 100 + y / 400 + months_from m

-- the same by products and shifts
pub hundredth : (y : ℕ) → y ≤ 9999 → 5243 * y / 524288 ≡ y / 100
hundredth y h = omega arith

pub leap-days : (y : ℕ) → 1461 * y / 4 ≡ 365 * y + y / 4
leap-days y = omega arith

pub four_hundredth : (y : ℕ) → y / 100 / 4 ≡ y / 400
four_hundredth y = omega arith

pub shifted : (m : ℕ) → 3 ≤ m → m ≤ 14 → (979 * m - 2919) / 32 ≡ months_from m
unfolding passes
shifted m h k =
    let e : m - 3 + 3 ≡ m = omega arith in
    rw e at (eqb-true ((979 * (m - 3 + 3) - 2919) / 32) (months_from (m - 3 + 3))
    (passes_at (λ (i : ℕ). eqb ((979 * (i + 3) - 2919) / 32) (months_from (i + 3))) 12 refl (m - 3) (omega arith)))

march_on : (t : Date) → IsDate t → 3 ≤ t.month → from_march t.year t.month + t.day ≡ day_number t + 306
unfolding day_number
march_on t h m = omega (arith, closed t.year, before-suc year_length t.year, from_march_lem t.year t.month h.year_from m (omega (arith, h.month_to)))

-- January and February are counted to the year before
before_march : (t : Date) → IsDate t → t.month < 3 → from_march (t.year - 1) (t.month + 12) + t.day ≡ day_number t + 306
unfolding day_number
before_march t h m = omega (arith, by_rule_of_leaps t.year h.year_from, to_march t.year t.month h.month_from m)

-- the year and the month that a date is counted by
pub record Counted (t : Date) (y m : ℕ) : Type 0 where
  pub year_to : y ≤ 9999
  pub from : 3 ≤ m
  pub to : m ≤ 14
  pub sum : from_march y m + t.day ≡ day_number t + 306

pub counted_late : (t : Date) (y m : ℕ) → IsDate t → 3 ≤ t.month → y ≡ t.year → m ≡ t.month → Counted t y m
counted_late t y m h l e f = record { year_to = omega (arith, h.year_to); from = omega arith; to = omega (arith, h.month_to); sum = rw (e, f) (march_on t h l) }

pub counted_early : (t : Date) (y m : ℕ) → IsDate t → t.month < 3 → y ≡ t.year - 1 → m ≡ t.month + 12 → Counted t y m
counted_early t y m h l e f = record { year_to = omega (arith, h.year_to); from = omega arith; to = omega arith; sum = rw (e, f) (before_march t h l) }

pub less_306 : {r f n : ℕ} (d : ℕ) → r ≡ f → f + d ≡ n + 306 → r + d - 306 ≡ n
less_306 d e h = omega arith

-- with the leap days given back that centuries lack, every year has 1461 quarters of a day
abbrev even : ℕ → ℕ → ℕ
even q c = q + 4 * (c - c / 4)

in_hundreds : (j c : ℕ) → 146100 * c ≤ j → j < 146100 * c + 146100 → j / 1461 / 100 ≡ c
in_hundreds j c l u =
    let y = j / 1461 in
    let a : 100 * c ≤ y = omega arith in
    let b : y < 100 * c + 100 = omega arith in
    omega arith

same_century : (q c : ℕ) → 146097 * c ≤ q → q < 146097 * c + 146097 → even q c / 1461 / 100 ≡ c
same_century q c l u = in_hundreds (even q c) c (omega arith) (omega arith)

evenly : (x : ℕ) → x ≡ 365 * ((4 * x + 3) / 1461) + (4 * x + 3) / 1461 / 4 + (4 * x + 3) % 1461 / 4
evenly x = omega arith

-- the year that begins in March in which a day lies, and the day in it
pub record MarchDay (z y e : ℕ) : Type 0 where
  pub day : z ≡ before_year (suc y) + e
  pub within : e < year_length (suc y)

-- a year ends where its 1461 quarters do, the last one of a century where the century does
quarters_end : (z c y : ℕ) → even (4 * z + 3) c < 1461 * y → z + c < 365 * y + y / 4 + c / 4
quarters_end z c y h = omega arith

century_ends : (z c : ℕ) → 4 * z + 3 < 146097 * c → z + c < 36525 * c + c / 4
century_ends z c h = omega arith

under : (z c x b : ℕ) → z + c < x → b + c ≡ x → z < b
under z c x b h e = omega arith

hundred_quartered : (y c : ℕ) → y ≡ 100 * c → 365 * y + y / 4 ≡ 36525 * c
hundred_quartered y c e = omega arith

-- b is where the next year begins
ends : (z c y b : ℕ) → even (4 * z + 3) c < 1461 * suc y → 4 * z + 3 < 146097 * suc c → y / 100 ≡ c → b + suc y / 100 ≡ 365 * suc y + suc y / 4 + suc y / 400 → z < b
ends z c y b u v s h = by (dec_lt y (100 * c + 99))
  where
    in_400 : {d : ℕ} → suc y / 100 ≡ d → suc y / 400 ≡ d / 4
    in_400 e = sym (four_hundredth (suc y)) ∙ ap (λ (x : ℕ). x / 4) e

    by : Dec (y < 100 * c + 99) → z < b
    by (yes l) =
        let a : suc y / 100 ≡ c = omega arith in
        under z c _ b (quarters_end z c (suc y) u) (rw (a, in_400 a) at h)
    by (no l) =
        let k : suc y ≡ 100 * suc c = omega arith in
        let a : suc y / 100 ≡ suc c = omega arith in
        under z (suc c) _ b (century_ends z (suc c) v) (rw (a, in_400 a, hundred_quartered (suc y) (suc c) k) at h)

found_day : (z c j y e : ℕ) → 146097 * c ≤ 4 * z + 3 → 4 * z + 3 < 146097 * c + 146097 → j ≡ even (4 * z + 3) c → y ≡ j / 1461 → e ≡ j % 1461 / 4 → MarchDay z y e
found_day z c j y e l u p q r =
    let x = z + (c - c / 4) in
    let s : j ≡ 4 * x + 3 = omega arith in
    let h : y / 100 ≡ c = ap (λ (i : ℕ). i / 100) (q ∙ ap (λ (i : ℕ). i / 1461) p) ∙ same_century (4 * z + 3) c l u in
    let g : y / 400 ≡ c / 4 = sym (four_hundredth y) ∙ ap (λ (i : ℕ). i / 4) h in
    let v : y ≡ (4 * x + 3) / 1461 = q ∙ ap (λ (i : ℕ). i / 1461) s in
    let w : e ≡ (4 * x + 3) % 1461 / 4 = r ∙ ap (λ (i : ℕ). i % 1461 / 4) s in
    let t : x ≡ 365 * y + y / 4 + e = rw (v, w) (evenly x) in
    let d : z ≡ before_year (suc y) + e = omega (arith, closed y) in
    let b : z < before_year (suc (suc y)) = ends z c y (before_year (suc (suc y))) (omega arith) (omega arith) h (closed (suc y)) in
    record { day = d; within = omega (arith, before-suc year_length (suc y)) }

pub march_day : (z : ℕ) → MarchDay z (even (4 * z + 3) ((4 * z + 3) / 146097) / 1461) (even (4 * z + 3) ((4 * z + 3) / 146097) % 1461 / 4)
march_day z = found_day z ((4 * z + 3) / 146097) _ _ _ (omega arith) (omega arith) refl refl refl

-- the month of a day in such a year, and the day in the month
abbrev pub parts : ℕ → ℕ
parts e = 2141 * e + 197913

record InMonth (e m d : ℕ) : Type 0 where
  pub from : 3 ≤ m
  pub to : m ≤ 14
  pub first : 1 ≤ d
  pub day : months_from m + d ≡ e + 1
  pub until : e + 1 ≤ months_from (suc m)

in_parts : (e : ℕ) → e < 366 → both (eqb (parts e / 65536) ((5 * e + 2) / 153 + 3)) (eqb ((153 * ((5 * e + 2) / 153) + 2) / 5 + parts e % 65536 / 2141) e) ≡ true
unfolding passes
in_parts = passes_at (λ (e : ℕ). both (eqb (parts e / 65536) ((5 * e + 2) / 153 + 3)) (eqb ((153 * ((5 * e + 2) / 153) + 2) / 5 + parts e % 65536 / 2141) e)) 366 refl

month_of : (e k m r : ℕ) → e < 366 → k ≡ (5 * e + 2) / 153 → m ≡ k + 3 → (153 * k + 2) / 5 + r ≡ e → InMonth e m (r + 1)
month_of e k m r h s t q =
    let a : m - 3 ≡ k = omega arith in
    let b : suc m - 3 ≡ suc k = omega arith in
    let u : e + 1 ≤ (153 * suc k + 2) / 5 = omega arith in
    record {
      from = omega arith;
      to = omega arith;
      first = omega arith;
      day = rw a (omega arith);
      until = rw b u;
    }

in_month_lem : (e : ℕ) → e < 366 → InMonth e (parts e / 65536) (parts e % 65536 / 2141 + 1)
in_month_lem e h =
    let b = both_true _ _ (in_parts e h) in
    month_of e ((5 * e + 2) / 153) (parts e / 65536) (parts e % 65536 / 2141) h refl (eqb-true _ _ b.0) (eqb-true _ _ b.1)

-- the date of a serial day n that lies on the day e of the year y
module _ (n y e : ℕ) (p : n + 305 ≡ before_year (suc y) + e) (q : e < year_length (suc y)) where
  in_calendar : (m d : ℕ) → InMonth e m d → n ≤ 3652059 → (y ≤ 9999) × (12 < m → y < 9999)
  in_calendar m d i l =
      let a : 9999 < y → ⊥ = λ g. omega (arith, before_mono year_length 10001 (suc y) (omega arith), before-suc year_length 10000, last-day, year_least 10000 (omega arith)) in
      let b : 12 < m → 9998 < y → ⊥ = λ f g. omega (arith, before_mono year_length 10000 (suc y) (omega arith), last-day, i.day, i.first) in
      (omega (arith, a), λ f. omega (arith, b f))

  from_first : (m d : ℕ) → InMonth e m d → 1 ≤ n → m ≤ 12 → 1 ≤ y
  from_first m d i l f = by y refl
    where
      by : (x : ℕ) → y ≡ x → 1 ≤ y
      by zero g = absurd (omega (arith, before-one, ap (λ (x : ℕ). before_year (suc x)) g, i.until))
      by (suc x) g = omega arith

  march_date : (m d : ℕ) → InMonth e m d → 1 ≤ n → n ≤ 3652059 → m ≤ 12 → IsDate (record { year = y; month = m; day = d })
  march_date m d i l h f =
      let g = from_first m d i l f in
      record {
        year_from = g;
        year_to = (in_calendar m d i h).0;
        month_from = omega (arith, i.from);
        month_to = f;
        day-from = i.first;
        day-to = omega (arith, i.day, i.until, before-suc (month_length y) m, from_march_lem y m g i.from (omega arith), from_march_lem y (suc m) g (omega (arith, i.from)) (omega arith));
      }

  march_number : (m d : ℕ) → InMonth e m d → 1 ≤ n → m ≤ 12 → day_number (record { year = y; month = m; day = d }) ≡ n
  unfolding day_number
  march_number m d i l f = omega (arith, i.day, before-suc year_length y, from_march_lem y m (from_first m d i l f) i.from (omega arith))

  -- January and February lie in the year after
  next-length : (m d : ℕ) → InMonth e m d → 12 < m → d ≤ month_length (suc y) (m - 12)
  next-length m d i f = by (dec_lt m 14)
    where
      by : Dec (m < 14) → d ≤ month_length (suc y) (m - 12)
      by (yes l) =
          let k : m ≡ 13 = omega arith in
          rw k (omega (arith, rw k at i.day, rw k at i.until, before-suc (month_length (suc y)) 1, to_march (suc y) 1 (omega arith) (omega arith), to_march (suc y) 2 (omega arith) (omega arith)))
      by (no l) =
          let k : m ≡ 14 = omega (arith, i.to) in
          rw k (omega (arith, rw k at i.day, before-suc (month_length (suc y)) 2, to_march (suc y) 2 (omega arith) (omega arith), from_march_lem (suc y) 3 (omega arith) (omega arith) (omega arith)))

  next-date : (m d : ℕ) → InMonth e m d → n ≤ 3652059 → 12 < m → IsDate (record { year = y + 1; month = m - 12; day = d })
  next-date m d i h f =
      record {
        year_from = omega arith;
        year_to = omega (arith, (in_calendar m d i h).1 f);
        month_from = omega arith;
        month_to = omega (arith, i.to);
        day-from = i.first;
        day-to = rw (add-one y) (next-length m d i f);
      }

  next-number : (m d : ℕ) → InMonth e m d → 12 < m → day_number (record { year = y + 1; month = m - 12; day = d }) ≡ n
  unfolding day_number
  next-number m d i f = rw (add-one y) (omega (arith, i.day, to_march (suc y) (m - 12) (omega arith) (omega (arith, i.to))))

  module _ (l : 1 ≤ n) (h : n ≤ 3652059) where
    found : InMonth e (parts e / 65536) (parts e % 65536 / 2141 + 1)
    found = in_month_lem e (omega (arith, q, year_most (suc y)))

    pub year_to : y ≤ 9999
    year_to = (in_calendar _ _ found h).0

    pub in_first_year : parts e / 65536 ≤ 12 → record { year = y; month = parts e / 65536; day = parts e % 65536 / 2141 + 1 } ≡ the_date n
    in_first_year f = sym (date_found _ (march_date _ _ found l h f)) ∙ ap the_date (march_number _ _ found l f)

    pub in_next_year : 12 < parts e / 65536 → record { year = y + 1; month = parts e / 65536 - 12; day = parts e % 65536 / 2141 + 1 } ≡ the_date n
    in_next_year f = sym (date_found _ (next-date _ _ found h f)) ∙ ap the_date (next-number _ _ found f)
