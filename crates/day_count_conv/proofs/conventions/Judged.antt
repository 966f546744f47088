-- Of dates already judged the fraction is what its rule gives.
use Rattle.std.specs.Prelude.{Some}
use mathlib.Core.Path.{◌≡◌, refl, sym}
use mathlib.Core.Bool.{true, false}
use Rattle.calendar.specs.dates.Dates.{is_date, is_before}
use Rattle.calendar.specs.declared.dates.Date.{Date}
use Rattle.calendar.proofs.dates.Dates.{date-yes}
use Rattle.calendar.proofs.dates.Order.{days_not_before, not-before}
use Rattle.day_fraction.specs.Fractions.{Span}
use Rattle.day_fraction.specs.declared.DateSpan.{DateSpan}
use Rattle.day_count_conv.specs.conventions.Conventions.{Values, by_rule, roll_dated, year_fraction}
use Rattle.day_count_conv.specs.declared.conventions.DayCountConv.{DayCountConv}
use Rattle.day_count_conv.specs.declared.conventions.DayCountConv.TheVariants as conv
use Rattle.day_count_conv.specs.declared.conventions.NoteTerms.{NoteTerms}

-- two dates of which the second is not before the first
pub spans : (start end : Date) → is_date start ≡ true → is_date end ≡ true → is_before end start ≡ false → Span start end
spans start end d e b = record { first = d; last = e; order = not-before end start (date-yes end e) (date-yes start d) b }

pub span_fraction : {A : Type 0} (v : Values A) (rule : DayCountConv) (start end : Date) (x : NoteTerms) → Span start end → roll_dated rule x.roll ≡ true → year_fraction v rule start end x ≡ by_rule v rule start end x
unfolding year_fraction
span_fraction v rule start end x s d = rw (s.first, s.last, d, days_not_before end start (date-yes end s.last) (date-yes start s.first) s.order)

-- and of a span that is judged
pub judged_fraction : {A : Type 0} (v : Values A) (rule : DayCountConv) (start end : Date) (x : NoteTerms) (s : DateSpan) → (s.start ≡ start) × (s.end ≡ end) × (roll_dated rule x.roll ≡ true) → by_rule v rule s.start s.end x ≡ year_fraction v rule start end x
judged_fraction v rule start end x s h = rw (← h.0, ← h.1) (sym (span_fraction v rule s.start s.end x s.ordered h.2))

-- a roll date of the calendar, whether the rule looks at it or not
pub roll_dated_lem : (rule : DayCountConv) (roll : Date) → is_date roll ≡ true → roll_dated rule (Some roll) ≡ true
roll_dated_lem conv.Act365 roll d = refl
roll_dated_lem conv.Act360 roll d = refl
roll_dated_lem conv.Act365l roll d = refl
roll_dated_lem conv.D30_360 roll d = refl
roll_dated_lem conv.D30E360 roll d = refl
roll_dated_lem conv.ActActICMA roll d = d
