-- `decimal::ten_thousandths` meets its contract: both fractions are one. Laws of Bits.
use mathlib.Core.Path.{◌∙◌}
use native.Mathlib.Omega.{arith}
use Rattle.decimal.proofs.float.Bits.{ten_same}
use Rattle.decimal.proofs.float.ten_thousandths.Goals as goal

pub returns : goal.returns
returns c = c.half_even.ensures ∙ ten_same c.args.q c.args.k (omega arith)
