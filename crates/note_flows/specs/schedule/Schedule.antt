-- What is due and what is owed for it; no promise of an entry point rests on this.
use Rattle.std.specs.Prelude.{Bool, true, false, Option, Some, None, Float}
use Rattle.outcome.specs.Outcome.{Outcome, given, refused, and_then, passed_as, pick}
use Rattle.calendar.specs.dates.Dates.{is_date, is_before}
use Rattle.calendar.specs.declared.dates.Date.{Date}
use Rattle.time_period.specs.steps.Steps.{absent, stepped}
use Rattle.day_count_conv.specs.conventions.Conventions.{fractions_in_f64, rolled_from, by_rule}
use Rattle.bond.specs.note.Notes.{note_checks, first_coupon_end, nominal_of, coupon_amount}
use Rattle.bond.specs.declared.note.Note.{Note}
use Rattle.note_flows.specs.declared.schedule.Due.{Due}
use Rattle.note_flows.specs.declared.schedule.Due.TheVariants.{First, After, Nothing}
use Rattle.note_flows.specs.declared.schedule.Payment.{Payment}

-- a note passes its checks, whatever position and table are taken with it
unfoldable pub is_accepted : Note → Bool
is_accepted n = elim (note_checks true true n) [ given m ↦ true | refused k ↦ false ]

-- the date is one of the calendar
abbrev pub is_dated : Due → Bool
is_dated First = true
is_dated (After t) = is_date t
is_dated Nothing = true

-- a coupon that ends on a date, of a fraction of a year
abbrev pub coupon : Note → Float → Date → Float → Payment
coupon n position end fraction = record { date = end; amount = coupon_amount position n fraction; next = After end }

-- its fraction by the note's rule, rolled from a date
abbrev pub coupon_owed : Note → Float → Date → Date → Date → Outcome (Option Payment)
coupon_owed n position start end roll =
    passed_as (λ fraction. Some (coupon n position end fraction)) (by_rule fractions_in_f64 n.day_count_convention start end (rolled_from roll n.period))

-- what is owed next: a coupon to an end that is found, the nominal, or nothing
abbrev pub owed : Note → Float → Due → Outcome (Option Payment)
owed n position First = and_then (first_coupon_end n) (λ end. coupon_owed n position n.issue_date end end)
owed n position (After t) =
    pick (is_before t n.maturity)
    (and_then (stepped n.period absent t) (λ end. coupon_owed n position t end t))
    (given (Some (record { date = n.maturity; amount = nominal_of position n; next = Nothing })))
owed n position Nothing = given None
