-- `calendar::is_leap` meets its contract: the test that led to each `return` picks its rule of leap
-- years.
use Rattle.calendar.proofs.gregorian.Years.{leap_of_25, leap_of_others}
use Rattle.calendar.proofs.gregorian.is_leap.Goals as goal

pub returns-then-year-eq0 : goal.returns-then-year-eq0
returns-then-year-eq0 c = leap_of_25 _ c.if-year-eq0.true

pub returns-else-year-eq0 : goal.returns-else-year-eq0
returns-else-year-eq0 c = leap_of_others _ c.if-year-eq0.false
