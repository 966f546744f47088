-- `decimal::whole_start` meets its contract: the zeros of all but the last five digits.
use mathlib.Core.Path.{sym}
use native.Mathlib.Omega.{arith}
use lib.Seq.{length-take-le}
use Rattle.decimal.proofs.four_decimals.Texts.{start_most}
use Rattle.decimal.proofs.four_decimals.whole_start.Goals as goal

pub slice_bounds-leading_zeros-end : goal.slice_bounds-leading_zeros-end
slice_bounds-leading_zeros-end _ = sym (length-take-le _ _ (omega arith))

pub returns-clause-before_last : goal.returns-clause-before_last
returns-clause-before_last c = rw c.leading_zeros.ensures (start_most c.args.d.now c.requires)
