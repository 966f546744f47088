-- Steps: where a period leads from a date, forwards and back.
use Rattle.std.specs.Prelude.{ℕ, suc, ◌≡◌, Bool, true, false, not, List, eqb, ℤ, pos, negsuc, neg_ℤ, ◌*ℤ◌, Result, Option, Some, None}
use Rattle.std.specs.Borrow.{Bor}
use Rattle.outcome.specs.Outcome.{Outcome, given, refused, unless, and_then}
use Rattle.outcome.specs.Refusals.{outcome_of}
use Rattle.outcome.specs.declared.Refusal.{Refusal}
use Rattle.calendar.specs.dates.Dates.{day_number}
use Rattle.calendar.specs.serial.Answers.{date_of}
use Rattle.calendar.specs.declared.dates.Day.{Day}
use Rattle.calendar.specs.declared.dates.Date.{Date}
use Rattle.date_step.specs.Steps.{days_later, months_later, years_later}
use Rattle.business_days.specs.table.Business.{later_from, earlier_from}
use Rattle.time_period.specs.declared.steps.TimePeriodUnit.{TimePeriodUnit}
use Rattle.time_period.specs.declared.steps.TimePeriodUnit.TheVariants.{Daily, BusinessDaily, Weekly, Monthly, Annual}
use Rattle.business_days.specs.declared.table.Holidays.{Holidays as Judged}
use Rattle.time_period.specs.declared.steps.TimePeriod.{TimePeriod}

-- a holiday table is given, or there is none
pub data Holidays : Type 0 where
  absent : Holidays
  table : List ℕ → Holidays

-- a table that is lent, or none
abbrev pub lent : Option (Bor (List ℕ)) → Holidays
lent (Some h) = table h.now
lent None = absent

-- a table that was judged, or none
abbrev pub judged : Option Judged → Holidays
judged (Some h) = table h.days.now
judged None = absent

-- B steps over business days, back for a negative number
abbrev pub business_day : List ℕ → ℤ → ℕ → Outcome Day
business_day h (pos k) d = later_from h k d
business_day h (negsuc k) d = earlier_from h (suc k) d

-- without a table it is refused, even for 0
unfoldable pub business_step : ℤ → Holidays → Date → Outcome Date
business_step n absent t = refused 12
business_step n (table h) t = and_then (business_day h n (day_number t)) date_of

-- the step that the unit names: days and weeks add 1 and 7 days each
abbrev pub unit_step : TimePeriodUnit → ℤ → Holidays → Date → Outcome Date
unit_step Daily n h t = days_later t n
unit_step BusinessDaily n h t = business_step n h t
unit_step Weekly n h t = days_later t (pos 7 *ℤ n)
unit_step Monthly n h t = months_later t n
unit_step Annual n h t = years_later t n

abbrev pub stepped : TimePeriod → Holidays → Date → Outcome Date
stepped p h t = unit_step p.unit p.num h t

-- subtracting negates the number; -2,147,483,648 is refused with 4
abbrev pub is_least : ℤ → Bool
is_least (pos n) = false
is_least (negsuc n) = eqb n 2147483647

-- a period with its number negated, which leads back
abbrev pub negated : TimePeriod → TimePeriod
negated p = record { num = neg_ℤ p.num; unit = p.unit }

unfoldable pub inverse_of : TimePeriod → Outcome TimePeriod
inverse_of p = unless (not (is_least p.num)) 4 (given (negated p))

-- 12: B without a table
abbrev pub needs_table : TimePeriodUnit → Bool
needs_table Daily = false
needs_table BusinessDaily = true
needs_table Weekly = false
needs_table Monthly = false
needs_table Annual = false

abbrev pub served : TimePeriodUnit → Holidays → Bool
served u absent = not (needs_table u)
served u (table h) = true

-- what the entry point promises of its result r
abbrev pub InversePromise : TimePeriod → Result TimePeriod Refusal → Type 0
InversePromise p r = outcome_of r ≡ inverse_of p
