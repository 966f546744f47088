-- `length_of_month` meets its contract: each arm of the `match` has its numbers, and `_` has none of
-- them.
use Rattle.std.proofs.Common.{sym, ◌∙◌, rules}
use Rattle.calendar.proofs.gregorian.Months.{long_first, long_last, short, february, none}
use Rattle.calendar.proofs.gregorian.length_of_month.Goals as goal

pub returns-in-1 : goal.returns-in-1
returns-in-1 c = long_first _ c.in-1.is

pub returns-in-8 : goal.returns-in-8
returns-in-8 c = long_last _ c.in-8.is

pub returns-in-4 : goal.returns-in-4
returns-in-4 c = short _ c.in-4.is

pub returns-in-2 : goal.returns-in-2
returns-in-2 c = february _ c.in-2.is (sym c.is_leap.ensures ∙ c.if-is_leap.true)

pub returns-in-2-2 : goal.returns-in-2-2
returns-in-2-2 c = february _ c.in-2.is (sym c.is_leap.ensures ∙ c.if-is_leap.false)

pub returns-in_default : goal.returns-in_default
returns-in_default c = none _ _ (search rules) (search rules) (search rules) (search rules)
