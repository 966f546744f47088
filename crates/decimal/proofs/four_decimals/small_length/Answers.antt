-- `decimal::small_length` meets its contract: the columns are filled, or the digits counted. Laws
-- of Texts.
use native.Mathlib.Omega.{arith}
use Rattle.decimal.proofs.four_decimals.Texts.{columns_filled, signed_long, four_long, whole_short}
use Rattle.decimal.proofs.four_decimals.small_length.Goals as goal

pub returns-then-tens-lt100000000000000 : goal.returns-then-tens-lt100000000000000
returns-then-tens-lt100000000000000 c = columns_filled c.args.negative c.args.tens c.if-tens-lt100000000000000.true

pub overflow_add-decimal_length : goal.overflow_add-decimal_length
overflow_add-decimal_length c =
    omega (arith, c.decimal_length.ensures, whole_short c.args.tens (omega arith))

pub columns-requires : goal.columns-requires
columns-requires c =
    omega (arith, c.decimal_length.ensures, whole_short c.args.tens (omega arith))

pub returns : goal.returns
returns c =
    omega (arith, c.columns.ensures, c.decimal_length.ensures, signed_long c.args.negative c.args.tens, four_long c.args.tens)
