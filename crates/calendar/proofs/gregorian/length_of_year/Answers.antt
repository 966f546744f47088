-- `calendar::length_of_year` meets its contract: year 0 has no days, and every other is a leap year
-- or not.
use mathlib.Core.Path.{sym, ◌∙◌}
use Rattle.calendar.proofs.gregorian.Months.{no_year, year_length_lem}
use Rattle.calendar.proofs.gregorian.length_of_year.Goals as goal

pub returns-then-year-lt1 : goal.returns-then-year-lt1
returns-then-year-lt1 c = no_year _ c.if-year-lt1.true

pub returns-then-is_leap : goal.returns-then-is_leap
returns-then-is_leap c = year_length_lem _ c.if-year-lt1.false (sym c.is_leap.ensures ∙ c.if-is_leap.true)

pub returns-else-is_leap : goal.returns-else-is_leap
returns-else-is_leap c = year_length_lem _ c.if-year-lt1.false (sym c.is_leap.ensures ∙ c.if-is_leap.false)
