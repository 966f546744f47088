-- `day_fraction::part-of-year-elapsed` meets its contract: the days before the month, and those
-- before the day, over 366 in a leap year and 365 in another.
use Prim.Native.Nat.{ℕ, ◌+◌, ◌-◌}
use mathlib.Core.Path.{◌≡◌, sym, ◌∙◌, ap}
use native.Mathlib.Omega.{arith}
use mathlib.Core.Bool.{true}
use lib.IntN.{pos}
use Rattle.calendar.specs.gregorian.Gregorian.{before_month}
use Rattle.calendar.specs.dates.Dates.{is_date}
use Rattle.calendar.specs.declared.dates.Date.{Date}
use Rattle.calendar.proofs.gregorian.Months.{year_most, year_length_lem}
use Rattle.calendar.proofs.dates.Dates.{date-yes, within_year}
use Rattle.day_fraction.specs.Fractions.{quotient, since_january}
use Rattle.day_fraction.proofs.Spans.{since_is}
use Rattle.day_fraction.proofs.Written.{over_by, lit365, lit366}
use Rattle.day_fraction.proofs.part_of_year_elapsed.Goals as goal

-- the days counted are those since 1 January
since : (t : Date) (n : ℕ) → is_date t ≡ true → n ≡ before_month t.year t.month → n + t.day - 1 ≡ since_january t
since t n d e = omega (arith, e, since_is t (date-yes t d))

pub days_before_month-requires : goal.days_before_month-requires
days_before_month-requires c = let h = date-yes c.args.t c.requires in omega arith

pub overflow_add-since : goal.overflow_add-since
overflow_add-since c =
    let t = c.args.t in
    let h = date-yes t c.requires in
    omega (arith, within_year t h, year_most t.year)

pub overflow_sub-since : goal.overflow_sub-since
overflow_sub-since c =
    let h = date-yes c.args.t c.requires in
    omega arith

pub returns-then-is_leap : goal.returns-then-is_leap
returns-then-is_leap c =
    let t = c.args.t in
    over_by 366 lit366 (ap pos (since t _ c.requires c.days_before_month.ensures)) ∙ ap (quotient (pos (since_january t))) (year_length_lem t.year (date-yes t c.requires).year_from (sym c.is_leap.ensures ∙ c.if-is_leap.true))

pub returns-else-is_leap : goal.returns-else-is_leap
returns-else-is_leap c =
    let t = c.args.t in
    over_by 365 lit365 (ap pos (since t _ c.requires c.days_before_month.ensures)) ∙ ap (quotient (pos (since_january t))) (year_length_lem t.year (date-yes t c.requires).year_from (sym c.is_leap.ensures ∙ c.if-is_leap.false))
