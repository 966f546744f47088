-- `decimal::put_scaled` meets its contract: so many times 48 factors two are in the digits. Laws of
-- Multiplying.
use mathlib.Core.Path.{ap, ◌∙◌}
use native.Mathlib.Omega.{arith}
use lib.Pow.{pow_mono}
use lib.ListN.{length}
use Rattle.std.proofs.Common.{rules}
use Rattle.number_text.proofs.length.Digits.{length_digits}
use Rattle.decimal.proofs.big_digits.Multiplying.{scaled_start, scaled_more}
use Rattle.decimal.proofs.big_digits.put_scaled.Goals as goal

pub put_digits-requires : goal.put_digits-requires
put_digits-requires c = omega (arith, c.new.ensures.at, ap length c.new.ensures.bytes, length_digits (length c.args.out.now) c.args.n)

pub loop-init : goal.loop-init
loop-init c = scaled_start _ _ _ _ _ c.new.ensures.bytes c.new.ensures.at c.put_digits.ensures (search rules)

pub loop-preserved : goal.loop-preserved
loop-preserved c =
    let l = c.loop in
    (c.multiply.auto.out ∙ l.invariant.0, scaled_more _ _ _ _ _ _ 48 _ l.invariant.0 l.invariant.1 c.power_of_two.ensures (omega arith) c.multiply.ensures)

pub multiply-requires-2 : goal.multiply-requires-2
multiply-requires-2 c = rw c.power_of_two-2.ensures (pow_mono {j = 48} (omega arith))

pub returns : goal.returns
returns c =
    let l = c.loop in
    scaled_more _ _ _ _ _ _ _ _ l.invariant.0 l.invariant.1 c.power_of_two-2.ensures (omega (arith, c.saturating_sub-whole.ensures)) c.multiply-2.ensures
