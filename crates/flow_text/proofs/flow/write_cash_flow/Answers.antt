-- `flow_text::write_cash_flow` meets its contract: 15, 17, 1, 16, or the whole text. Laws of
-- Answers.
use mathlib.Core.Path.{sym, ap}
use native.Mathlib.Omega.{arith}
use lib.ListN.{length}
use Rattle.std.proofs.Common.{rules}
use Rattle.outcome.proofs.Outcomes.{passed_given}
use Rattle.number_text.proofs.write.Shown.{length_short, shown_by}
use Rattle.flow_text.specs.flow.Texts.{flow_shown}
use Rattle.flow_text.proofs.flow.Answers.{flow_was}
use Rattle.flow_text.proofs.flow.write_cash_flow.Goals as goal

pub returns-then-out-k : goal.returns-then-out-k
returns-then-out-k c = length_short (flow_shown c.args.flow) c.args.out.now _ c.in_ok-k.ensures c.if-out-k.true

pub put_cash_flow_at-requires : goal.put_cash_flow_at-requires
put_cash_flow_at-requires c =
    let p = passed_given length (flow_shown c.args.flow) _ (sym c.in_ok-k.ensures) in
    let was = flow_was c.args.flow p.0 p.1 in
    record { amount_finite = was.0; date_exists = was.1; room = rw was.2 (omega (arith, p.2, c.if-out-k.false, c.new-w.ensures.at, ap length c.new-w.ensures.bytes)) }

pub returns : goal.returns
returns c =
    let p = passed_given length (flow_shown c.args.flow) _ (sym c.in_ok-k.ensures) in
    let was = flow_was c.args.flow p.0 p.1 in
    shown_by (flow_shown c.args.flow) c.args.out.now p.0 _ _ _ p.1 c.new-w.ensures.bytes c.new-w.ensures.at (rw was.2 at c.put_cash_flow_at.ensures) (omega (arith, p.2, c.if-out-k.false)) (search rules)
