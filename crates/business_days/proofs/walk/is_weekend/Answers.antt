-- `business_days::is_weekend` meets its contract: a part of 2 ^ 32 tells the weekday of a day of
-- the calendar.
use Rattle.business_days.proofs.table.Days.{weekend_by_part}
use Rattle.business_days.proofs.walk.is_weekend.Goals as goal

pub returns : goal.returns
returns c = weekend_by_part c.args.n c.requires.0 c.requires.1
