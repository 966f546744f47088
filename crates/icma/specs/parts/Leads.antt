-- What an inner function says of one step; no promise of an entry point rests on this.
use Rattle.std.specs.Prelude.{Bool, false}
use Rattle.outcome.specs.Outcome.{Outcome, given, refused}
use Rattle.calendar.specs.dates.Dates.{is_same}
use Rattle.calendar.specs.declared.dates.Date.{Date}

-- whether a step led to a date
abbrev pub leads_to : Outcome Date → Date → Bool
leads_to (given u) t = is_same u t
leads_to (refused n) t = false
