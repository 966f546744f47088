-- The order of the refusals: how each check is answered where it fails, and what is left where it
-- holds.
use Prim.Native.Nat.{ℕ}
use mathlib.Core.Path.{◌≡◌, refl}
use mathlib.Core.Bool.{true, false, not}
use mathlib.Core.List.{List}
use lib.IntN.{ℤ}
use Rattle.outcome.specs.Outcome.{given, refused, unless}
use Rattle.calendar.specs.dates.Dates.{is_date}
use Rattle.calendar.specs.declared.dates.Date.{Date}
use Rattle.business_days.specs.table.Table.{is_table}
use Rattle.time_period.specs.added.Added.{judged_step, add_to, sub_from}
use Rattle.time_period.specs.steps.Steps.{Holidays, absent, table, business_step, unit_step, stepped, needs_table, inverse_of}
use Rattle.time_period.specs.declared.steps.TimePeriodUnit.{TimePeriodUnit}
use Rattle.time_period.specs.declared.steps.TimePeriodUnit.TheVariants.{Daily, BusinessDaily, Weekly, Monthly, Annual}
use Rattle.time_period.specs.declared.steps.TimePeriod.{TimePeriod}

-- without a table nothing but B's 12 comes before the step
unserved : (u : TimePeriodUnit) (n : ℤ) (t : Date) → unit_step u n absent t ≡ unless (not (needs_table u)) 12 (unit_step u n absent t)
unfolding business_step
unserved Daily n t = refl
unserved BusinessDaily n t = refl
unserved Weekly n t = refl
unserved Monthly n t = refl
unserved Annual n t = refl

pub no_table : (p : TimePeriod) (t : Date) → stepped p absent t ≡ judged_step p absent t
no_table p t = unserved p.unit p.num t

-- and with one, whether it is taken
module _ (p : TimePeriod) (h : List ℕ) (t : Date) where
  pub bad_table : is_table h ≡ false → refused 13 ≡ judged_step p (table h) t
  bad_table e = rw e

  pub table_taken : is_table h ≡ true → stepped p (table h) t ≡ judged_step p (table h) t
  table_taken e = rw e

-- the date first, then the number's negative
module _ (p : TimePeriod) (h : Holidays) (t : Date) where
  pub add_undated : is_date t ≡ false → refused 1 ≡ add_to p h t
  unfolding add_to
  add_undated d = rw d

  pub add-dated : is_date t ≡ true → judged_step p h t ≡ add_to p h t
  unfolding add_to
  add-dated d = rw d

  pub sub_undated : is_date t ≡ false → refused 1 ≡ sub_from p h t
  unfolding sub_from
  sub_undated d = rw d

  pub sub-refused : (n : ℕ) → is_date t ≡ true → refused n ≡ inverse_of p → refused n ≡ sub_from p h t
  unfolding sub_from
  sub-refused n d e = rw (d, ← e)

  pub sub-dated : (q : TimePeriod) → is_date t ≡ true → given q ≡ inverse_of p → judged_step q h t ≡ sub_from p h t
  unfolding sub_from
  sub-dated q d e = rw (d, ← e)
