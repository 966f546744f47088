-- `DateSpot::next` meets its contract: the search, and the date of the day it found.
use Rattle.calendar.specs.serial.Answers.{date_of}
use Rattle.outcome.proofs.Refusals.{handed_on}
use Rattle.day_adjust.specs.Adjustment.{next_date}
use Rattle.day_adjust.proofs.Adjusting.{next_dated, on_next}
use Rattle.day_adjust.proofs.DateSpot.next.Goals as goal

pub returns-in_err-day : goal.returns-in_err-day
unfolding next_date
returns-in_err-day c = handed_on _ _ date_of c.from_residual.ensures.1 c.in_err-day.ensures

pub date_near-requires : goal.date_near-requires
date_near-requires c = next_dated _ _ _ c.args.self.spot.from c.in_ok-day.ensures

pub returns : goal.returns
returns c = on_next _ _ _ _ c.args.self.spot.from c.in_ok-day.ensures c.date_near.ensures
