-- A period added to a date and subtracted from it: what is refused, and in which order.
use Rattle.std.specs.Prelude.{◌≡◌, Bool, true, Result}
use Rattle.outcome.specs.Outcome.{Outcome, unless, and_then}
use Rattle.outcome.specs.Refusals.{outcome_of}
use Rattle.outcome.specs.declared.Refusal.{Refusal}
use Rattle.calendar.specs.dates.Dates.{is_date}
use Rattle.calendar.specs.declared.dates.Date.{Date}
use Rattle.business_days.specs.table.Table.{is_table}
use Rattle.time_period.specs.steps.Steps.{Holidays, absent, table, stepped, inverse_of, served}
use Rattle.time_period.specs.declared.steps.TimePeriod.{TimePeriod}

-- 13: for a table given, whatever the unit
abbrev pub accepted : Holidays → Bool
accepted absent = true
accepted (table h) = is_table h

-- order for a step: 1 for the date, 4, 12, 13, then 1 for the result
abbrev pub judged_step : TimePeriod → Holidays → Date → Outcome Date
judged_step p h t = unless (served p.unit h) 12 (unless (accepted h) 13 (stepped p h t))

unfoldable pub add_to : TimePeriod → Holidays → Date → Outcome Date
add_to p h t = unless (is_date t) 1 (judged_step p h t)

unfoldable pub sub_from : TimePeriod → Holidays → Date → Outcome Date
sub_from p h t = unless (is_date t) 1 (and_then (inverse_of p) (λ q. judged_step q h t))

-- what the entry points promise of their result r
abbrev pub AddPromise : TimePeriod → Holidays → Date → Result Date Refusal → Type 0
AddPromise p h t r = outcome_of r ≡ add_to p h t

abbrev pub SubPromise : TimePeriod → Holidays → Date → Result Date Refusal → Type 0
SubPromise p h t r = outcome_of r ≡ sub_from p h t
