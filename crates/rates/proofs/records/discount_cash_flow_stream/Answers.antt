-- `rates::discount_cash_flow_stream` meets its contract: 15, or the flows one after the other; what is
-- left decides. Laws of Streams.
use mathlib.Core.Path.{sym, ◌∙◌}
use lib.ListN.{drop_of_length-le}
use Rattle.outcome.proofs.Lists.{head_at}
use Rattle.outcome.proofs.Refusals.{refused_on}
use Rattle.cash_flow.proofs.flow.NoFlow.{no_flow}
use Rattle.rates.specs.simple.Rates.{discounted_stream}
use Rattle.rates.proofs.simple.Streams.{stream_on, stream_ends, stream_none}
use Rattle.rates.proofs.records.discount_cash_flow_stream.Goals as goal

pub returns-in_err-sum : goal.returns-in_err-sum
unfolding discounted_stream
returns-in_err-sum c =
    let a = c.args in
    let left = rw (head_at a.flows.now c.loop-flow.flow-index no_flow c.loop-flow-test.true) at c.loop-flow.invariant in
    refused_on _ _ c.from_residual.ensures.1
    ∙ rw (sym c.is_discount_rate.ensures ∙ c.if-not-is_discount_rate.false) (stream_ends a.rate a.today _ _ _ _ _ c.in_err-sum.ensures left)

pub loop-flow-preserved : goal.loop-flow-preserved
loop-flow-preserved c =
    let a = c.args in
    let left = rw (head_at a.flows.now c.loop-flow.flow-index no_flow c.loop-flow-test.true) at c.loop-flow.invariant in
    stream_on a.rate a.today _ _ _ _ _ c.in_ok-sum.ensures left

pub returns : goal.returns
unfolding discounted_stream
returns c =
    let a = c.args in
    let left = rw (drop_of_length-le a.flows.now c.loop-flow-test.false) at c.loop-flow.invariant in
    rw (sym c.is_discount_rate.ensures ∙ c.if-not-is_discount_rate.false) (sym (stream_none a.rate a.today _) ∙ left)
