-- A walk by a period: from a date on, or back, step by step to a limit, counting the dates it
-- reaches.
use Rattle.std.specs.Prelude.{ℕ, ◌+◌, Bool}
use Rattle.outcome.specs.Outcome.{Outcome, given, and_then, pick}
use Rattle.outcome.specs.Walks.{walked}
use Rattle.calendar.specs.dates.Dates.{is_before}
use Rattle.calendar.specs.declared.dates.Date.{Date}
use Rattle.time_period.specs.steps.Steps.{stepped, absent}
use Rattle.time_period.specs.declared.steps.TimePeriod.{TimePeriod}
use Rattle.icma.specs.declared.walks.Walked.{Walked}

-- one step from a date, by a period or by the same period negated; a date outside the range stops
-- it with 1
abbrev pub step : TimePeriod → Date → Outcome Date
step p t = stepped p absent t

-- a walk goes on while there is more to go; the calendar has no more than 3652060 steps
abbrev pub walk : ℕ → (Date → Bool) → (Walked → Outcome Walked) → Walked → Outcome Walked
walk k more turn = walked k (λ w. more w.at) turn

abbrev pub from : Date → Walked
from t = record { at = t; count = 0 }

-- forward until not before the limit, counting each date reached that is not after it
unfoldable pub turn_on : TimePeriod → Date → Walked → Outcome Walked
turn_on p limit w = and_then (step p w.at) (λ u. given (record { at = u; count = pick (is_before limit u) w.count (w.count + 1) }))

unfoldable pub walk_on : TimePeriod → Date → Date → Outcome Walked
walk_on p limit t = walk 3652060 (λ u. is_before u limit) (turn_on p limit) (from t)

-- back until not after the limit, counting each date reached that is not before it
unfoldable pub turn_back : TimePeriod → Date → Walked → Outcome Walked
turn_back q limit w = and_then (step q w.at) (λ u. given (record { at = u; count = pick (is_before u limit) w.count (w.count + 1) }))

unfoldable pub walk_back : TimePeriod → Date → Date → Outcome Walked
walk_back q limit t = walk 3652060 (λ u. is_before limit u) (turn_back q limit) (from t)

-- from the roll date: add the period while before start, then subtract while after end
unfoldable pub base_from : TimePeriod → TimePeriod → Date → Date → Date → Outcome Walked
base_from p q start end roll = and_then (walk_on p start roll) (λ a. walk_back q end a.at)
