-- `decimal::write_decimal` meets its contract: room for the whole text, or none of it. Laws of
-- Answers.
use mathlib.Core.Path.{ap}
use native.Mathlib.Omega.{arith}
use lib.ListN.{length}
use Rattle.std.proofs.Common.{rules}
use Rattle.number_text.proofs.write.Shown.{length_short, shown_by}
use Rattle.decimal.specs.float.Decimal.{decimal_text16, decimal_shown}
use Rattle.decimal.proofs.float.Answers.{decimal_given, given-finite}
use Rattle.decimal.proofs.float.write_decimal.Goals as goal

pub returns-then-out-k : goal.returns-then-out-k
returns-then-out-k c = length_short (decimal_shown c.args.x) c.args.out.now _ c.in_ok-k.ensures c.if-out-k.true

pub put_decimal_at-requires : goal.put_decimal_at-requires
put_decimal_at-requires c =
    let p = given-finite c.args.x _ c.in_ok-k.ensures in
    record { x_finite = p.0; room = omega (arith, p.1, c.if-out-k.false, c.new-w.ensures.at, ap length c.new-w.ensures.bytes) }

pub returns : goal.returns
returns c =
    let p = given-finite c.args.x _ c.in_ok-k.ensures in
    shown_by (decimal_shown c.args.x) c.args.out.now (decimal_text16 c.args.x) _ _ _ (decimal_given c.args.x p.0) c.new-w.ensures.bytes c.new-w.ensures.at c.put_decimal_at.ensures (omega (arith, p.1, c.if-out-k.false)) (search rules)
