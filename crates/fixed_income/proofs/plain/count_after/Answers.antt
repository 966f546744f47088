-- `fixed_income::count_after` meets its contract: what is left of the days decides.
use mathlib.Core.Path.{◌≡◌, sym, ◌∙◌}
use mathlib.Core.Bool.{true}
use borrow.Author.Tests.{lt-ltb, le-ltb}
use lib.ListN.{get_or}
use Rattle.calendar.specs.dates.Dates.{is_day}
use Rattle.fixed_income.specs.plain.Plain.{is_day_number, is_later_day, days_written}
use Rattle.fixed_income.proofs.records.Later.{judging_yes, judging_no, undated, undated_flow, too_few, enough}
use Rattle.fixed_income.proofs.plain.count_after.Goals as goal
use Rattle.fixed_income.proofs.plain.count_after.Goals.{then-day-d, else-day-d}

pub returns-then-not-is_day : goal.returns-then-not-is_day
unfolding days_written
returns-then-not-is_day c = undated (is_day c.args.day) is_day_number (is_later_day c.args.day) c.args.days.now c.args.places (sym c.is_day.ensures ∙ c.if-not-is_day.true)

pub returns-then-not-is_day-2 : goal.returns-then-not-is_day-2
unfolding days_written
returns-then-not-is_day-2 c =
    let l = c.loop-d in
    undated_flow (is_day c.args.day) is_day_number (is_later_day c.args.day) c.args.days.now c.args.places 0 l.d-index l.count c.loop-d-test.true l.invariant (sym c.is_day-in-loop-d.ensures ∙ c.if-not-is_day-2.true)

pub loop-d-preserved : goal.loop-d-preserved
loop-d-preserved c =
    let l = c.loop-d in
    let d = get_or c.args.days.now l.d-index 0 in
    let dated : is_day_number d ≡ true = sym c.is_day-in-loop-d.ensures ∙ c.if-not-is_day-2.false in
    elim c.if-day-d.branch [
      | then-day-d w ↦ rw w.count-is (judging_yes is_day_number (is_later_day c.args.day) c.args.days.now 0 l.d-index l.count c.loop-d-test.true l.invariant dated (lt-ltb _ d w.if-day-d.true))
      | else-day-d w ↦ rw w.count-is (judging_no is_day_number (is_later_day c.args.day) c.args.days.now 0 l.d-index l.count c.loop-d-test.true l.invariant dated (le-ltb _ d w.if-day-d.false))
    ]

pub returns-then-places-count : goal.returns-then-places-count
unfolding days_written
returns-then-places-count c =
    let l = c.loop-d in
    too_few (is_day c.args.day) is_day_number (is_later_day c.args.day) c.args.days.now c.args.places (sym c.is_day.ensures ∙ c.if-not-is_day.false) l.d-index l.count c.loop-d-test.false l.invariant c.if-places-count.true

pub returns : goal.returns
unfolding days_written
returns c =
    let l = c.loop-d in
    enough (is_day c.args.day) is_day_number (is_later_day c.args.day) c.args.days.now c.args.places (sym c.is_day.ensures ∙ c.if-not-is_day.false) l.d-index l.count c.loop-d-test.false l.invariant c.if-places-count.false
