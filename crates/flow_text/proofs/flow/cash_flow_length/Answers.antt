-- `flow_text::cash_flow_length` meets its contract: the amount's refusal, 1, or the length of the
-- two parts. Laws of Answers.
use Rattle.outcome.proofs.Refusals.{refused_on}
use mathlib.Core.Path.{sym, ap, ◌∙◌}
use native.Mathlib.Omega.{arith}
use borrow.Author.Rules.{rules}
use lib.Dec.{T}
use lib.Ieee.{binary64, fits}
use lib.ListN.{length}
use Rattle.outcome.proofs.Outcomes.{passed_given}
use Rattle.flow_text.specs.amount.AmountTexts.{amount_shown}
use Rattle.flow_text.proofs.amount.Answers.{amount_was}
use Rattle.flow_text.proofs.amount.Lengths.{amount_long, decimal_long}
use Rattle.flow_text.proofs.flow.Answers.{flow-given, flow_no_date, flow-refused}
use Rattle.flow_text.proofs.flow.cash_flow_length.Goals as goal

pub returns-then-not-is_date : goal.returns-then-not-is_date
returns-then-not-is_date c = flow_no_date c.args.flow _ c.in_ok-k.ensures (sym c.is_date.ensures ∙ c.if-not-is_date.true)

pub overflow_add-result-2 : goal.overflow_add-result-2
overflow_add-result-2 c =
    let x = c.args.flow.amount in
    let y = c.args.flow.currency in
    let p = passed_given length (amount_shown x y) _ (sym c.in_ok-k.ensures) in
    let was = amount_was x y p.0 p.1 in
    let fit : T (fits binary64 c.args.flow.amount) = search rules in
    record { fits = omega (arith, p.2, ap length was.2, amount_long x y, decimal_long x fit was.0) }

pub returns : goal.returns
returns c = flow-given c.args.flow _ c.in_ok-k.ensures (sym c.is_date.ensures ∙ c.if-not-is_date.false)

pub returns-in_err-k : goal.returns-in_err-k
returns-in_err-k c = refused_on _ _ c.from_residual.ensures.1 ∙ flow-refused c.args.flow _ c.in_err-k.ensures
