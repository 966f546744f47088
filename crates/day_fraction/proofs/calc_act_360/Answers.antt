-- `day_fraction::calc_act_360` meets its contract: the days are a whole number, and so is the
-- divisor.
use Rattle.day_fraction.specs.Fractions.{bits}
use Rattle.day_fraction.proofs.Written.{over_by, lit360}
use Rattle.day_fraction.proofs.calc_act_360.Goals as goal

pub returns : goal.returns
unfolding bits
returns c = over_by 360 lit360 c.days.ensures
