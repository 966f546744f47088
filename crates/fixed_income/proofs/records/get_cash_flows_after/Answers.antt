-- `fixed_income::get_cash_flows_after` meets its contract: the first pass answers, and each turn
-- that finds a later record writes it.
use mathlib.Core.Path.{sym, ◌∙◌}
use Rattle.outcome.proofs.Lists.{head_at, passed_yes, passed_no}
use Rattle.cash_flow.proofs.flow.NoFlow.{no_flow}
use Rattle.fixed_income.specs.records.After.{is_later}
use Rattle.fixed_income.proofs.records.Later.{column_yes, column_no}
use Rattle.fixed_income.proofs.records.Records.{inside, written}
use Rattle.fixed_income.proofs.records.get_cash_flows_after.Goals as goal
use Rattle.fixed_income.proofs.records.get_cash_flows_after.Goals.{then-is_later, else-is_later}

pub bounds-room-k : goal.bounds-room-k
bounds-room-k c =
    let l = c.loop-flow in
    inside c.args.date c.args.flows.now c.args.room.now _ c.in_ok-count.ensures l.flow-index l.k l.room l.invariant.passed l.invariant.column _ c.loop-flow-test.true (head_at c.args.flows.now l.flow-index no_flow c.loop-flow-test.true) (sym c.is_later.ensures ∙ c.if-is_later.true)

pub loop-flow-preserved : goal.loop-flow-preserved
loop-flow-preserved c =
    let l = c.loop-flow in
    let at = head_at c.args.flows.now l.flow-index no_flow c.loop-flow-test.true in
    let later = sym c.is_later.ensures in
    elim c.if-is_later.branch [
      | then-is_later w ↦
          let h = later ∙ w.if-is_later.true in
          rw (w.k-is, w.room-is)
          (record {
            passed = passed_yes (is_later c.args.date) c.args.flows.now l.flow-index l.k _ c.loop-flow-test.true at l.invariant.passed h;
            column = column_yes (λ f. f) (is_later c.args.date) c.args.flows.now c.args.room.now l.flow-index l.k _ at l.room l.invariant.column h (inside c.args.date c.args.flows.now c.args.room.now _ c.in_ok-count.ensures l.flow-index l.k l.room l.invariant.passed l.invariant.column _ c.loop-flow-test.true at h);
          })
      | else-is_later w ↦
          let h = later ∙ w.if-is_later.false in
          rw (w.k-is, w.room-is)
          (record {
            passed = passed_no (is_later c.args.date) c.args.flows.now l.flow-index l.k _ c.loop-flow-test.true at l.invariant.passed h;
            column = column_no (λ f. f) (is_later c.args.date) c.args.flows.now c.args.room.now l.flow-index l.k _ at l.room l.invariant.column h;
          })
    ]

pub returns : goal.returns
returns c =
    let l = c.loop-flow in
    record { answer = c.in_ok-count.ensures; contents = written c.args.date c.args.flows.now c.args.room.now _ c.in_ok-count.ensures l.flow-index l.k l.room l.invariant.passed l.invariant.column c.loop-flow-test.false }
