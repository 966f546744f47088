-- What an inner function says of dates that it judges; no promise of an entry point rests on this.
use Rattle.std.specs.Prelude.{◌≡◌, true}
use Rattle.outcome.specs.Outcome.{Outcome, given, refused}
use Rattle.calendar.specs.declared.dates.Date.{Date}
use Rattle.day_fraction.specs.declared.DateSpan.{DateSpan}
use Rattle.day_count_conv.specs.conventions.Conventions.{fractions_in_f64, roll_dated, year_fraction}
use Rattle.day_count_conv.specs.declared.conventions.DayCountConv.{DayCountConv}
use Rattle.day_count_conv.specs.declared.conventions.NoteTerms.{NoteTerms}

-- the dates in order, and the roll date in order; or the refusal of the year fraction
abbrev pub Judged : DayCountConv → Date → Date → NoteTerms → Outcome DateSpan → Type 0
Judged rule start end x (given s) = (s.start ≡ start) × (s.end ≡ end) × (roll_dated rule x.roll ≡ true)
Judged rule start end x (refused n) = refused n ≡ year_fraction fractions_in_f64 rule start end x
