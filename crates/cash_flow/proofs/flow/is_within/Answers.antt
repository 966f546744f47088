-- `cash_flow::is_within` meets its contract: below zero the number negated, else the number itself.
-- Laws of Signs.
use Rattle.cash_flow.proofs.flow.Signs.{below-zero, not-below}
use Rattle.cash_flow.proofs.flow.is_within.Goals as goal

pub returns-then-d : goal.returns-then-d
returns-then-d c = below-zero c.args.d c.args.tol c.if-d.true

pub returns : goal.returns
returns c = not-below c.args.d c.args.tol c.if-d.false
