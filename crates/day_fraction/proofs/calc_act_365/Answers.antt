-- `day_fraction::calc_act_365` meets its contract: the days are a whole number, and so is the
-- divisor.
use Rattle.day_fraction.specs.Fractions.{bits}
use Rattle.day_fraction.proofs.Written.{over_by, lit365}
use Rattle.day_fraction.proofs.calc_act_365.Goals as goal

pub returns : goal.returns
unfolding bits
returns c = over_by 365 lit365 c.days.ensures
