-- Where a step leads: to a date of the calendar, later for a number above zero and earlier for one
-- below; and what each unit keeps.
use Prim.Native.Nat.{ℕ, suc, ◌-◌, ◌≤◌, ◌<◌}
use mathlib.Core.Path.{◌≡◌, sym, ◌∙◌, ap}
use mathlib.Core.Bool.{true, false≢true}
use mathlib.Core.List.{List}
use native.Mathlib.Omega.{arith}
use lib.Dec.{leb}
use lib.IntN.{ℤ, pos, negsuc, nat_abs, ◌+ℤ◌, ◌*ℤ◌}
use lib.Signed.{lt_z}
use Rattle.outcome.specs.Outcome.{given}
use Rattle.outcome.proofs.Outcomes.{given_not_refused, then_given, Only, only-given, only-refused, only-unless, only_then}
use Rattle.calendar.specs.dates.Dates.{is_date, is_day, day_number, the_date, month_index, month_date}
use Rattle.calendar.specs.serial.Answers.{date_of}
use Rattle.calendar.specs.declared.dates.Day.{Day}
use Rattle.calendar.specs.declared.dates.Date.{Date}
use Rattle.calendar.proofs.dates.Dates.{IsDate, date_is}
use Rattle.calendar.proofs.dates.Inverse.{on-day, date_of-number}
use Rattle.calendar.proofs.dates.Order.{month_order}
use Rattle.date_step.specs.Steps.{from_zero_to, months_later, add_months, existing_date, years_later, add_years, days_later, add_days}
use Rattle.business_days.specs.table.Business.{serial_day, is_business}
use Rattle.time_period.specs.steps.Steps.{Holidays, absent, table, business_day, business_step, unit_step, stepped, served}
use Rattle.time_period.specs.declared.steps.TimePeriodUnit.{TimePeriodUnit}
use Rattle.time_period.specs.declared.steps.TimePeriodUnit.TheVariants.{Daily, BusinessDaily, Weekly, Monthly, Annual}
use Rattle.time_period.specs.declared.steps.TimePeriod.{TimePeriod}
use Rattle.date_step.proofs.Steps.{MonthsOn, months-on, YearsOn, years-on, DaysOn, days-on}
use Rattle.business_days.proofs.table.Steps.{no_step}
use Rattle.business_days.proofs.table.Days.{later_gives, earlier_gives, later_refuses, earlier_refuses}
use Rattle.time_period.proofs.steps.Signs.{seven_on, seven_back, above, below, moved_on, moved_back}

-- ---- what each unit keeps

module _ (n : ℤ) (t u : Date) (d : is_date t ≡ true) where
  pub days-step : days_later t n ≡ given u → DaysOn t n u
  unfolding add_days
  days-step e = days-on t n u (rw d e)

  -- the month's number moves by n, and the day is cut to the month's last
  pub months-step : months_later t n ≡ given u → MonthsOn t n u
  unfolding add_months
  months-step e = months-on t n u (rw d e)

  -- the year moves by n
  pub years-step : years_later t n ≡ given u → YearsOn t n u
  unfolding add_years
  years-step e = years-on t n u (rw d e)

-- n business days on: the day that the search over the table finds
pub record BusinessDaysOn (h : List ℕ) (t : Date) (n : ℤ) (u : Date) : Type 0 where
  pub dated : IsDate u
  pub reached : business_day h n (day_number t) ≡ given (serial_day (day_number u))
  pub business : 1 ≤ nat_abs n → is_business h (day_number u) ≡ true

module _ (h : List ℕ) where
  landed_business : (d : ℕ) (n : ℤ) (e : Day) → business_day h n d ≡ given e → 1 ≤ nat_abs n → is_business h e.0 ≡ true
  landed_business d (pos k) e g l = (later_gives h k d e l g).business
  landed_business d (negsuc k) e g l = (earlier_gives h (suc k) d e l g).business

  pub business_step_lem : (n : ℤ) (t u : Date) → business_step n (table h) t ≡ given u → BusinessDaysOn h t n u
  unfolding business_step
  business_step_lem n t u e =
      let m = then_given (business_day h n (day_number t)) date_of u e in
      let k = on-day m.0 u m.2 in
      let r : business_day h n (day_number t) ≡ given (serial_day (day_number u)) = m.1 ∙ ap (λ (x : ℕ). given (serial_day x)) (sym k.1) in
      record { dated = k.0; reached = r; business = landed_business (day_number t) n (serial_day (day_number u)) r }

  -- none of them: the date itself, a business day or not
  pub no_business_days : (t : Date) → is_date t ≡ true → business_step (pos 0) (table h) t ≡ given t
  unfolding business_step
  no_business_days t d = rw (no_step _ (day_number t)) (date_of-number t d)

-- ---- later and earlier

pub record LaterDate (t u : Date) : Type 0 where
  pub dated : IsDate u
  pub later : day_number t < day_number u

pub record EarlierDate (t u : Date) : Type 0 where
  pub dated : IsDate u
  pub earlier : day_number u < day_number t

module _ (n : ℤ) (t u : Date) where
  days_later-date : lt_z (pos 0) n ≡ true → DaysOn t n u → LaterDate t u
  days_later-date s k = record { dated = k.dated; later = moved_on _ _ n s k.number }

  days_earlier_date : lt_z n (pos 0) ≡ true → DaysOn t n u → EarlierDate t u
  days_earlier_date s k = record { dated = k.dated; earlier = moved_back _ _ n s k.number }

  months_later-date : lt_z (pos 0) n ≡ true → MonthsOn t n u → LaterDate t u
  months_later-date s k = record { dated = k.dated; later = month_order t u k.from k.dated (moved_on _ _ n s k.index) }

  months_earlier_date : lt_z n (pos 0) ≡ true → MonthsOn t n u → EarlierDate t u
  months_earlier_date s k = record { dated = k.dated; earlier = month_order u t k.dated k.from (moved_back _ _ n s k.index) }

  years_later-date : lt_z (pos 0) n ≡ true → YearsOn t n u → LaterDate t u
  years_later-date s k =
      let l = moved_on _ _ n s k.year in
      record { dated = k.dated; later = month_order t u k.from k.dated (omega (arith, k.month, k.from.year_from)) }

  years_earlier_date : lt_z n (pos 0) ≡ true → YearsOn t n u → EarlierDate t u
  years_earlier_date s k =
      let l = moved_back _ _ n s k.year in
      record { dated = k.dated; earlier = month_order u t k.dated k.from (omega (arith, k.month, k.dated.year_from)) }

business_later_day : (h : List ℕ) (d e : ℕ) (n : ℤ) → lt_z (pos 0) n ≡ true → business_day h n d ≡ given (serial_day e) → d < e
business_later_day h d e n s g =
    let a = above n s in
    (later_gives h (nat_abs n) d (serial_day e) a.1 (ap (λ (z : ℤ). business_day h z d) (sym a.0) ∙ g)).later

business_earlier_day : (h : List ℕ) (d e : ℕ) (n : ℤ) → lt_z n (pos 0) ≡ true → business_day h n d ≡ given (serial_day e) → e < d
business_earlier_day h d e n s g =
    let a = below n s in
    (earlier_gives h (suc (nat_abs n - 1)) d (serial_day e) (omega arith) (ap (λ (z : ℤ). business_day h z d) (sym a.0) ∙ g)).earlier

module _ (n : ℤ) (t u : Date) where
  business_later_date : (h : Holidays) → lt_z (pos 0) n ≡ true → business_step n h t ≡ given u → LaterDate t u
  unfolding business_step
  business_later_date absent s e = absurd (given_not_refused (sym e))
  business_later_date (table h) s e =
      let k = business_step_lem h n t u e in
      record { dated = k.dated; later = business_later_day h _ _ n s k.reached }

  business_earlier_date : (h : Holidays) → lt_z n (pos 0) ≡ true → business_step n h t ≡ given u → EarlierDate t u
  unfolding business_step
  business_earlier_date absent s e = absurd (given_not_refused (sym e))
  business_earlier_date (table h) s e =
      let k = business_step_lem h n t u e in
      record { dated = k.dated; earlier = business_earlier_day h _ _ n s k.reached }

  unit-later : (v : TimePeriodUnit) (h : Holidays) → is_date t ≡ true → lt_z (pos 0) n ≡ true → unit_step v n h t ≡ given u → LaterDate t u
  unit-later Daily h d s e = days_later-date n t u s (days-step n t u d e)
  unit-later BusinessDaily h d s e = business_later_date h s e
  unit-later Weekly h d s e = days_later-date (pos 7 *ℤ n) t u (seven_on n s) (days-step (pos 7 *ℤ n) t u d e)
  unit-later Monthly h d s e = months_later-date n t u s (months-step n t u d e)
  unit-later Annual h d s e = years_later-date n t u s (years-step n t u d e)

  unit_earlier : (v : TimePeriodUnit) (h : Holidays) → is_date t ≡ true → lt_z n (pos 0) ≡ true → unit_step v n h t ≡ given u → EarlierDate t u
  unit_earlier Daily h d s e = days_earlier_date n t u s (days-step n t u d e)
  unit_earlier BusinessDaily h d s e = business_earlier_date h s e
  unit_earlier Weekly h d s e = days_earlier_date (pos 7 *ℤ n) t u (seven_back n s) (days-step (pos 7 *ℤ n) t u d e)
  unit_earlier Monthly h d s e = months_earlier_date n t u s (months-step n t u d e)
  unit_earlier Annual h d s e = years_earlier_date n t u s (years-step n t u d e)

  unit-dated : (v : TimePeriodUnit) (h : Holidays) → is_date t ≡ true → unit_step v n h t ≡ given u → IsDate u
  unfolding business_step
  unit-dated Daily h d e = (days-step n t u d e).dated
  unit-dated BusinessDaily absent d e = absurd (given_not_refused (sym e))
  unit-dated BusinessDaily (table h) d e = (business_step_lem h n t u e).dated
  unit-dated Weekly h d e = (days-step (pos 7 *ℤ n) t u d e).dated
  unit-dated Monthly h d e = (months-step n t u d e).dated
  unit-dated Annual h d e = (years-step n t u d e).dated

-- what a step from a date of the calendar leads to, whatever the unit and the table; and by the
-- unit
pub record Stepped (p : TimePeriod) (h : Holidays) (t u : Date) : Type 0 where
  pub dated : IsDate u
  pub later : lt_z (pos 0) p.num ≡ true → day_number t < day_number u
  pub earlier : lt_z p.num (pos 0) ≡ true → day_number u < day_number t
  pub days : p.unit ≡ Daily → DaysOn t p.num u
  pub weeks : p.unit ≡ Weekly → DaysOn t (pos 7 *ℤ p.num) u
  pub months : p.unit ≡ Monthly → MonthsOn t p.num u
  pub years : p.unit ≡ Annual → YearsOn t p.num u
  pub business : p.unit ≡ BusinessDaily → (l : List ℕ) → h ≡ table l → BusinessDaysOn l t p.num u

module _ (p : TimePeriod) (h : Holidays) (t u : Date) (d : is_date t ≡ true) (e : stepped p h t ≡ given u) where
  -- the step that a unit names
  of_unit : (v : TimePeriodUnit) → p.unit ≡ v → unit_step v p.num h t ≡ given u
  of_unit v q = ap (λ (w : TimePeriodUnit). unit_step w p.num h t) (sym q) ∙ e

  pub step_leads : Stepped p h t u
  step_leads =
      record {
        dated = unit-dated p.num t u p.unit h d e;
        later = λ s. (unit-later p.num t u p.unit h d s e).later;
        earlier = λ s. (unit_earlier p.num t u p.unit h d s e).earlier;
        days = λ q. days-step p.num t u d (of_unit Daily q);
        weeks = λ q. days-step (pos 7 *ℤ p.num) t u d (of_unit Weekly q);
        months = λ q. months-step p.num t u d (of_unit Monthly q);
        years = λ q. years-step p.num t u d (of_unit Annual q);
        business = λ q l r. business_step_lem l p.num t u (ap (λ (g : Holidays). business_step p.num g t) (sym r) ∙ of_unit BusinessDaily q);
      }

-- without a table: a date of the calendar, later by a number above zero and earlier by one below
pub step-later : (p : TimePeriod) (t u : Date) → is_date t ≡ true → lt_z (pos 0) p.num ≡ true → stepped p absent t ≡ given u → (is_date u ≡ true) × (day_number t < day_number u)
step-later p t u d h e = let s = step_leads p absent t u d e in (date_is u s.dated, s.later h)

pub step_earlier : (p : TimePeriod) (t u : Date) → is_date t ≡ true → lt_z p.num (pos 0) ≡ true → stepped p absent t ≡ given u → (is_date u ≡ true) × (day_number u < day_number t)
step_earlier p t u d h e = let s = step_leads p absent t u d e in (date_is u s.dated, s.earlier h)

-- ---- refused

only_landing : (last : ℕ) (z : ℤ) → Only 1 (from_zero_to last z)
unfolding from_zero_to
only_landing last (pos k) = only-unless 1 (leb k last) (given k) (only-given 1 k)
only_landing last (negsuc k) = only-refused 1

only-date : (d : Day) → Only 1 (date_of d)
unfolding date_of
only-date d = only-unless 1 (is_day d) (given (the_date d.0)) (only-given 1 (the_date d.0))

only-days : (t : Date) (n : ℤ) → Only 1 (days_later t n)
unfolding days_later
only-days t n = only_then 1 (from_zero_to 3652059 (pos (day_number t) +ℤ n)) (λ k. date_of (record { 0 = k })) (only_landing _ _) (λ k. only-date (record { 0 = k }))

only_business : (h : List ℕ) (n : ℤ) (d : ℕ) → Only 1 (business_day h n d)
only_business h (pos k) d = later_refuses h k d
only_business h (negsuc k) d = earlier_refuses h (suc k) d

unit_refuses : (v : TimePeriodUnit) (n : ℤ) (h : Holidays) (t : Date) → served v h ≡ true → Only 1 (unit_step v n h t)
unfolding business_step months_later years_later existing_date
unit_refuses Daily n h t s = only-days t n
unit_refuses BusinessDaily n absent t s = absurd (false≢true s)
unit_refuses BusinessDaily n (table h) t s = only_then 1 (business_day h n (day_number t)) date_of (only_business h n (day_number t)) only-date
unit_refuses Weekly n h t s = only-days t (pos 7 *ℤ n)
unit_refuses Monthly n h t s = only_then 1 (from_zero_to 119987 (pos (month_index t) +ℤ n)) (λ i. given (month_date i t.day)) (only_landing _ _) (λ i. only-given 1 (month_date i t.day))
unit_refuses Annual n h t s =
    only_then 1 (from_zero_to 9999 (pos t.year +ℤ n)) (λ y. existing_date (record { year = y; month = t.month; day = t.day })) (only_landing _ _)
    (λ y. only-unless 1 (is_date (record { year = y; month = t.month; day = t.day })) _ (only-given 1 (record { year = y; month = t.month; day = t.day })))

-- a step that is refused at all is refused with 1, but for B without a table
pub step_refuses : (p : TimePeriod) (h : Holidays) (t : Date) → served p.unit h ≡ true → Only 1 (stepped p h t)
step_refuses p h t s = unit_refuses p.unit p.num h t s
