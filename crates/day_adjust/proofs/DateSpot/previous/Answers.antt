-- `DateSpot::previous` meets its contract: the search, and the date of the day it found.
use Rattle.calendar.specs.serial.Answers.{date_of}
use Rattle.outcome.proofs.Refusals.{handed_on}
use Rattle.day_adjust.specs.Adjustment.{prev_date}
use Rattle.day_adjust.proofs.Adjusting.{prev_dated, on_prev}
use Rattle.day_adjust.proofs.DateSpot.previous.Goals as goal

pub returns-in_err-day : goal.returns-in_err-day
unfolding prev_date
returns-in_err-day c = handed_on _ _ date_of c.from_residual.ensures.1 c.in_err-day.ensures

pub date_near-requires : goal.date_near-requires
date_near-requires c = prev_dated _ _ _ c.args.self.spot.to c.in_ok-day.ensures

pub returns : goal.returns
returns c = on_prev _ _ _ _ c.args.self.spot.to c.in_ok-day.ensures c.date_near.ensures
