-- `bit_fields::power_of_two` meets its contract: the shifted one does not wrap.
use Rattle.outcome.proofs.Numbers.{shifted_one}
use Rattle.bit_fields.proofs.power_of_two.Goals as goal

pub returns : goal.returns
returns c = shifted_one _ c.requires
