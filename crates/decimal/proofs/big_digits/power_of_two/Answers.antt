-- `decimal::power_of_two` meets its contract: the shifted one does not wrap.
use native.Mathlib.Omega.{arith}
use Rattle.outcome.proofs.Numbers.{shifted_one}
use Rattle.decimal.proofs.big_digits.power_of_two.Goals as goal

pub returns : goal.returns
returns c = shifted_one _ (omega (arith, c.requires))
