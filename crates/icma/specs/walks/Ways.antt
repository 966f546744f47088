-- What the inner functions say of both ways at once, on (`true`) and back (`false`); no promise of
-- an entry point rests on this.
use Rattle.std.specs.Prelude.{ℕ, ◌-◌, Bool, true, false, ℤ, pos}
use Rattle.std.specs.Int.Signed.{lt_z}
use Rattle.outcome.specs.Outcome.{Outcome}
use Rattle.calendar.specs.dates.Dates.{is_before, day_number}
use Rattle.calendar.specs.declared.dates.Date.{Date}
use Rattle.time_period.specs.declared.steps.TimePeriod.{TimePeriod}
use Rattle.icma.specs.walks.Walks.{turn_on, walk_on, turn_back, walk_back}
use Rattle.icma.specs.declared.walks.Walked.{Walked}

-- a number that leads this way
abbrev pub leads : Bool → ℤ → Bool
leads true n = lt_z (pos 0) n
leads false n = lt_z n (pos 0)

-- whether a date is past a limit on the way
abbrev pub is_past : Bool → Date → Date → Bool
is_past true t limit = is_before limit t
is_past false t limit = is_before t limit

-- the days that the calendar has left on the way
abbrev pub left : Bool → Date → ℕ
left true t = 3652059 - day_number t
left false t = day_number t

abbrev pub turned : Bool → TimePeriod → Date → Walked → Outcome Walked
turned true p limit w = turn_on p limit w
turned false p limit w = turn_back p limit w

-- a walk from a date
abbrev pub walk_from : Bool → TimePeriod → Date → Date → Outcome Walked
walk_from true p limit t = walk_on p limit t
walk_from false p limit t = walk_back p limit t
