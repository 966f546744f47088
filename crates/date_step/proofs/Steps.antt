-- What a step of months, years or days leads to.
use Prim.Native.Nat.{ℕ, zero, suc, ◌-◌, ◌≤◌, ◌<◌, min}
use mathlib.Core.Path.{◌≡◌, refl, sym, ◌∙◌, ap, subst}
use mathlib.Core.Bool.{Bool, true, false}
use native.Mathlib.Omega.{arith}
use native.Mathlib.Decide.{dec_lt}
use lib.Dec.{leb}
use lib.IntN.{ℤ, pos, negsuc, suc_ℤ, ◌+ℤ◌, suc_ℤ-+ℤ}
use borrow.Author.Tests.{le-leb, lt-leb, leb-true}
use Rattle.outcome.specs.Outcome.{Outcome, given, unless, both, and_then}
use Rattle.outcome.proofs.Outcomes.{given_injective, given_not_refused, unless-given, then_given}
use Rattle.calendar.specs.gregorian.Gregorian.{month_length}
use Rattle.calendar.specs.dates.Dates.{is_date, is_day, day_number, the_date, month_index, month_date}
use Rattle.calendar.specs.serial.Answers.{date_of}
use Rattle.date_step.specs.Steps.{from_zero_to, months_later, add_months, existing_date, years_later, add_years, days_later, add_days}
use Rattle.calendar.specs.declared.dates.Date.{Date}
use Rattle.calendar.proofs.dates.Dates.{IsDate, date-yes}
use Rattle.calendar.proofs.dates.Inverse.{on-day}
use Rattle.calendar.proofs.dates.Order.{InMonth, month_date_lem}

-- what was reached is the number moved to
pub landed : (last : ℕ) (z : ℤ) (i : ℕ) → from_zero_to last z ≡ given i → (z ≡ pos i) × (i ≤ last)
unfolding from_zero_to
landed last (pos k) i e =
    let u = unless-given (leb k last) 1 (given k) i e in
    let q : k ≡ i = given_injective u.1 in
    let l : k ≤ last = leb-true k last u.0 in
    (ap pos q, omega arith)
landed last (negsuc k) i e = absurd (given_not_refused (sym e))

pub lands_at : (last i : ℕ) → i ≤ last → from_zero_to last (pos i) ≡ given i
unfolding from_zero_to
lands_at last i h = rw (le-leb i last h)

-- a date that is given where it exists, and what follows on it
pub existing_gives : (t u : Date) → given u ≡ existing_date t → is_date u ≡ true
unfolding existing_date
existing_gives t u e =
    let g = unless-given (is_date t) 1 (given t) u (sym e) in
    subst (λ (x : Date). is_date x ≡ true) (given_injective g.1) g.0

pub existing_then : (t : Date) (next : Date → Outcome Date) → and_then (existing_date t) next ≡ unless (is_date t) 1 (next t)
unfolding existing_date
existing_then t next = by (is_date t)
  where
    by : (b : Bool) → and_then (unless b 1 (given t)) next ≡ unless b 1 (next t)
    by true = refl
    by false = refl

-- n months on: the month's number moves by n, and the day is cut to the month's last
pub record MonthsOn (t : Date) (n : ℤ) (u : Date) : Type 0 where
  pub from : IsDate t
  pub dated : IsDate u
  pub index : pos (month_index t) +ℤ n ≡ pos (month_index u)
  pub cut : u.day ≡ min t.day (month_length u.year u.month)

pub months-on : (t : Date) (n : ℤ) (u : Date) → add_months t n ≡ given u → MonthsOn t n u
unfolding add_months months_later
months-on t n u e =
    let g = unless-given (is_date t) 1 _ u e in
    let h = date-yes t g.0 in
    let m = then_given (from_zero_to 119987 (pos (month_index t) +ℤ n)) (λ i. given (month_date i t.day)) u g.1 in
    let l = landed 119987 (pos (month_index t) +ℤ n) m.0 m.1 in
    let i : InMonth m.0 t.day u = subst (InMonth m.0 t.day) (given_injective m.2) (month_date_lem m.0 t.day h.day-from l.1) in
    record { from = h; dated = i.dated; index = l.0 ∙ ap pos (sym i.index); cut = i.cut }

-- and every month of the calendar is reached
pub months-to : (t : Date) (n : ℤ) (i : ℕ) → pos (month_index t) +ℤ n ≡ pos i → i ≤ 119987 → months_later t n ≡ given (month_date i t.day)
unfolding months_later
months-to t n i e h = rw (e, lands_at 119987 i h)

pub months-reach : (t : Date) (n : ℤ) (i : ℕ) → is_date t ≡ true → pos (month_index t) +ℤ n ≡ pos i → i ≤ 119987 → add_months t n ≡ given (month_date i t.day)
unfolding add_months
months-reach t n i d e h = rw d (months-to t n i e h)

-- n years on: the same month and day
pub record YearsOn (t : Date) (n : ℤ) (u : Date) : Type 0 where
  pub from : IsDate t
  pub dated : IsDate u
  pub year : pos t.year +ℤ n ≡ pos u.year
  pub month : u.month ≡ t.month
  pub day : u.day ≡ t.day

pub years-on : (t : Date) (n : ℤ) (u : Date) → add_years t n ≡ given u → YearsOn t n u
unfolding add_years years_later existing_date
years-on t n u e =
    let g = unless-given (is_date t) 1 _ u e in
    let m = then_given (from_zero_to 9999 (pos t.year +ℤ n)) (λ y. existing_date (record { year = y; month = t.month; day = t.day })) u g.1 in
    let l = landed 9999 (pos t.year +ℤ n) m.0 m.1 in
    let v : Date = record { year = m.0; month = t.month; day = t.day } in
    let x = unless-given (is_date v) 1 (given v) u m.2 in
    let q : v ≡ u = given_injective x.1 in
    record {
      from = date-yes t g.0;
      dated = subst IsDate q (date-yes v x.0);
      year = l.0 ∙ ap (λ (w : Date). pos w.year) q;
      month = ap (λ (w : Date). w.month) (sym q);
      day = ap (λ (w : Date). w.day) (sym q);
    }

-- days counted from 0: one that lands there has a date, and none other
from_zero : (z : ℤ) → and_then (from_zero_to 3652058 z) (λ i. given (the_date (suc i))) ≡ and_then (from_zero_to 3652059 (suc_ℤ z)) (λ k. date_of (record { 0 = k }))
unfolding from_zero_to date_of is_day
from_zero (pos k) = by (dec_lt 3652058 k)
  where
    by : Dec (3652058 < k) → and_then (unless (leb k 3652058) 1 (given k)) (λ i. given (the_date (suc i))) ≡ and_then (unless (leb (suc k) 3652059) 1 (given (suc k))) (λ i. unless (both (leb 1 i) (leb i 3652059)) 1 (given (the_date i)))
    by (yes l) = rw (lt-leb k 3652058 l, lt-leb (suc k) 3652059 (omega arith))
    by (no l) =
        let e = le-leb (suc k) 3652059 (omega arith) in
        rw (le-leb k 3652058 (omega arith), e, le-leb 1 (suc k) (omega arith), e)
from_zero (negsuc zero) = refl
from_zero (negsuc (suc k)) = refl

pub days-from_zero : (t : Date) (n : ℤ) → 1 ≤ day_number t → and_then (from_zero_to 3652058 (pos (day_number t - 1) +ℤ n)) (λ i. given (the_date (suc i))) ≡ days_later t n
unfolding days_later
days-from_zero t n h =
    let e : suc (day_number t - 1) ≡ day_number t = omega arith in
    from_zero (pos (day_number t - 1) +ℤ n) ∙ ap (λ (z : ℤ). and_then (from_zero_to 3652059 z) (λ k. date_of (record { 0 = k }))) (sym (suc_ℤ-+ℤ (pos (day_number t - 1)) n) ∙ ap (λ (k : ℕ). pos k +ℤ n) e)

-- n days on: the serial day moves by n
pub record DaysOn (t : Date) (n : ℤ) (u : Date) : Type 0 where
  pub from : IsDate t
  pub dated : IsDate u
  pub number : pos (day_number t) +ℤ n ≡ pos (day_number u)

pub days-on : (t : Date) (n : ℤ) (u : Date) → add_days t n ≡ given u → DaysOn t n u
unfolding add_days days_later
days-on t n u e =
    let g = unless-given (is_date t) 1 _ u e in
    let m = then_given (from_zero_to 3652059 (pos (day_number t) +ℤ n)) (λ k. date_of (record { 0 = k })) u g.1 in
    let l = landed 3652059 (pos (day_number t) +ℤ n) m.0 m.1 in
    let d = on-day (record { 0 = m.0 }) u m.2 in
    record { from = date-yes t g.0; dated = d.0; number = l.0 ∙ ap pos (sym d.1) }
