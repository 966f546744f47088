-- `decimal::size_by_digits` meets its contract: the digits, and where they begin. Laws of Texts.
use native.Mathlib.Omega.{arith}
use Rattle.decimal.proofs.four_decimals.Texts.{filled_start}
use Rattle.decimal.proofs.four_decimals.size_by_digits.Goals as goal

pub overflow_sub-result : goal.overflow_sub-result
overflow_sub-result c =
    omega (arith, c.whole_start.ensures, c.put_scaled.auto.out, filled_start c.args.space.now _ _ c.requires.in_bounds.0 c.put_scaled.auto.out c.put_scaled.ensures c.requires.twos_bound)

pub returns : goal.returns
returns c =
    let from = filled_start c.args.space.now _ _ c.requires.in_bounds.0 c.put_scaled.auto.out c.put_scaled.ensures c.requires.twos_bound in
    (omega (arith, c.whole_start.ensures, c.put_scaled.auto.out, from), omega (arith, c.requires.in_bounds.1, c.put_scaled.auto.out))
