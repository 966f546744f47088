-- What an inner function says of the part at either end; no promise of an entry point rests on
-- this.
use Rattle.std.specs.Prelude.{Bool, true, false, Option}
use Rattle.outcome.specs.Outcome.{Outcome}
use Rattle.calendar.specs.declared.dates.Date.{Date}
use Rattle.time_period.specs.declared.steps.TimePeriod.{TimePeriod}
use Rattle.icma.specs.parts.Walk.{first_part, last_part}
use Rattle.icma.specs.declared.parts.Part.{Part}

-- by the period on (`true`) the first, by the period back (`false`) the last
abbrev pub cut_part : Bool → TimePeriod → Date → Date → Outcome (Option Part)
cut_part true p start b = first_part p start b
cut_part false q end e = last_part q end e
