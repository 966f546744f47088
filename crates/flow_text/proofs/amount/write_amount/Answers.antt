-- `flow_text::write_amount` meets its contract: 15, 17, 16, or the whole text. Laws of Answers.
use mathlib.Core.Path.{sym, ap}
use native.Mathlib.Omega.{arith}
use lib.ListN.{length}
use Rattle.std.proofs.Common.{rules}
use Rattle.outcome.proofs.Outcomes.{passed_given}
use Rattle.number_text.proofs.write.Shown.{length_short, shown_by}
use Rattle.flow_text.specs.amount.AmountTexts.{amount_shown}
use Rattle.flow_text.proofs.amount.Answers.{amount_was}
use Rattle.flow_text.proofs.amount.write_amount.Goals as goal

pub returns-then-out-k : goal.returns-then-out-k
returns-then-out-k c = length_short (amount_shown c.args.x c.args.currency) c.args.out.now _ c.in_ok-k.ensures c.if-out-k.true

pub put_amount-requires : goal.put_amount-requires
put_amount-requires c =
    let p = passed_given length (amount_shown c.args.x c.args.currency) _ (sym c.in_ok-k.ensures) in
    let was = amount_was c.args.x c.args.currency p.0 p.1 in
    record { x_finite = was.0; room = rw was.2 (omega (arith, p.2, c.if-out-k.false, c.new-w.ensures.at, ap length c.new-w.ensures.bytes)) }

pub returns : goal.returns
returns c =
    let p = passed_given length (amount_shown c.args.x c.args.currency) _ (sym c.in_ok-k.ensures) in
    let was = amount_was c.args.x c.args.currency p.0 p.1 in
    shown_by (amount_shown c.args.x c.args.currency) c.args.out.now p.0 _ _ _ p.1 c.new-w.ensures.bytes c.new-w.ensures.at (rw was.2 at c.put_amount.ensures) (omega (arith, p.2, c.if-out-k.false)) (search rules)
