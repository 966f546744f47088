-- `fixed_income::count_after` meets its contract: what is left of the records decides.
use mathlib.Core.Path.{sym, ◌∙◌}
use Rattle.calendar.specs.dates.Dates.{is_date}
use Rattle.cash_flow.proofs.flow.NoFlow.{no_flow}
use Rattle.fixed_income.specs.records.After.{has_date, is_later, flows_after}
use Rattle.fixed_income.specs.records.Promises.{records_written}
use Rattle.fixed_income.proofs.records.Later.{judging_yes, judging_no, undated, undated_flow, too_few, enough}
use Rattle.fixed_income.proofs.records.count_after.Goals as goal
use Rattle.fixed_income.proofs.records.count_after.Goals.{then-is_later, else-is_later}

pub returns-then-not-is_date : goal.returns-then-not-is_date
unfolding records_written flows_after
returns-then-not-is_date c = undated (is_date c.args.date) has_date (is_later c.args.date) c.args.flows.now c.args.places (sym c.is_date.ensures ∙ c.if-not-is_date.true)

pub returns-then-not-is_date-2 : goal.returns-then-not-is_date-2
unfolding records_written flows_after
returns-then-not-is_date-2 c =
    undated_flow (is_date c.args.date) has_date (is_later c.args.date) c.args.flows.now c.args.places no_flow c.loop-f.f-index c.loop-f.count c.loop-f-test.true c.loop-f.invariant (sym c.is_date-in-loop-f.ensures ∙ c.if-not-is_date-2.true)

pub loop-f-preserved : goal.loop-f-preserved
loop-f-preserved c =
    let l = c.loop-f in
    let dated = sym c.is_date-in-loop-f.ensures ∙ c.if-not-is_date-2.false in
    let later = sym c.is_later.ensures in
    elim c.if-is_later.branch [
      | then-is_later w ↦ rw w.count-is (judging_yes has_date (is_later c.args.date) c.args.flows.now no_flow l.f-index l.count c.loop-f-test.true l.invariant dated (later ∙ w.if-is_later.true))
      | else-is_later w ↦ rw w.count-is (judging_no has_date (is_later c.args.date) c.args.flows.now no_flow l.f-index l.count c.loop-f-test.true l.invariant dated (later ∙ w.if-is_later.false))
    ]

pub returns-then-places-count : goal.returns-then-places-count
unfolding records_written flows_after
returns-then-places-count c =
    too_few (is_date c.args.date) has_date (is_later c.args.date) c.args.flows.now c.args.places (sym c.is_date.ensures ∙ c.if-not-is_date.false) c.loop-f.f-index c.loop-f.count c.loop-f-test.false c.loop-f.invariant c.if-places-count.true

pub returns : goal.returns
unfolding records_written flows_after
returns c =
    enough (is_date c.args.date) has_date (is_later c.args.date) c.args.flows.now c.args.places (sym c.is_date.ensures ∙ c.if-not-is_date.false) c.loop-f.f-index c.loop-f.count c.loop-f-test.false c.loop-f.invariant c.if-places-count.false
