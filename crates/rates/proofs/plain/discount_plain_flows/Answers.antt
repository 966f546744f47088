-- `rates::discount_plain_flows` meets its contract: 15, or the flows one after the other; what is
-- left decides. Laws of Streams.
use mathlib.Core.Path.{sym, ap, ap₂, ◌∙◌}
use native.Mathlib.Nat.{sub-zero}
use lib.ListN.{length, get_or}
use lib.Ieee.{nan}
use Rattle.outcome.proofs.Lists.{values_none, values_next}
use Rattle.outcome.proofs.Refusals.{refused_on}
use Rattle.cash_flow.specs.flow.Flows.{date_on}
use Rattle.rates.specs.simple.Rates.{flow_value, stream_from, discounted_stream}
use Rattle.rates.specs.plain.Plain.{currency_at, flow_at, flows_from, flows_of}
use Rattle.rates.proofs.simple.Streams.{stream_on, stream_ends, stream_none}
use Rattle.day_fraction.proofs.Written.{lit0}
use Rattle.rates.proofs.plain.discount_plain_flows.Goals as goal

pub loop-i-init : goal.loop-i-init
unfolding flows_of
loop-i-init c =
    let a = c.args in
    ap₂ (stream_from a.rate a.today) lit0 (ap (flows_from a.days.now a.currencies.now a.amounts.now 0) (sub-zero (length a.amounts.now)))

pub returns-in_err-sum : goal.returns-in_err-sum
unfolding discounted_stream flow_at
returns-in_err-sum c =
    let a = c.args in
    let y = c.currency_at-currency.ensures ∙ ap currency_at c.entry.ensures in
    let left = rw (values_next (flow_at a.days.now a.currencies.now a.amounts.now) c.loop-i.i (length a.amounts.now) c.loop-i-test.true) at c.loop-i.invariant in
    refused_on _ _ c.from_residual.ensures.1
    ∙ rw (sym c.is_discount_rate.ensures ∙ c.if-not-is_discount_rate.false)
    (stream_ends a.rate a.today _ _ _ _ _ (c.in_err-sum.ensures ∙ ap (flow_value a.rate a.today) (λ j. record { date = date_on (c.entry-in-loop-i.ensures j); currency = y j; amount = get_or a.amounts.now c.loop-i.i nan })) left)

pub loop-i-preserved : goal.loop-i-preserved
unfolding flow_at
loop-i-preserved c =
    let a = c.args in
    let y = c.currency_at-currency.ensures ∙ ap currency_at c.entry.ensures in
    let left = rw (values_next (flow_at a.days.now a.currencies.now a.amounts.now) c.loop-i.i (length a.amounts.now) c.loop-i-test.true) at c.loop-i.invariant in
    stream_on a.rate a.today _ _ _ _ _ (c.in_ok-sum.ensures ∙ ap (flow_value a.rate a.today) (λ j. record { date = date_on (c.entry-in-loop-i.ensures j); currency = y j; amount = get_or a.amounts.now c.loop-i.i nan })) left

pub returns : goal.returns
unfolding discounted_stream
returns c =
    let a = c.args in
    let left = rw (values_none (flow_at a.days.now a.currencies.now a.amounts.now) c.loop-i.i (length a.amounts.now) c.loop-i-test.false) at c.loop-i.invariant in
    rw (sym c.is_discount_rate.ensures ∙ c.if-not-is_discount_rate.false) (sym (stream_none a.rate a.today _) ∙ left)
