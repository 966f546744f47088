-- `walk_on` meets its contract: at each day what is left to do is the whole answer.
use Rattle.std.proofs.Common.{sym, ◌∙◌, ap, ℕ, arith}
use Rattle.business_days.specs.table.Business.{next_from, later_from}
use Rattle.business_days.proofs.table.Steps.{no_step}
use Rattle.business_days.proofs.walk.Walks.{onward_from, onward_over, onward_inside, onward_holiday, onward_weekend, onward_reached, onward_business}
use Rattle.business_days.proofs.walk.walk_on.Goals as goal
use Rattle.business_days.proofs.walk.walk_on.Goals.{then-at-holiday, else-at-holiday+then-not-is_weekend+else-left-eq0, else-at-holiday+else-not-is_weekend}

pub returns-then-k-eq0 : goal.returns-then-k-eq0
returns-then-k-eq0 c = sym (no_step (next_from c.args.part.now) c.args.n) ∙ ap (λ (j : ℕ). later_from c.args.part.now j c.args.n) (sym c.if-k-eq0.true)

pub loop-at-init : goal.loop-at-init
loop-at-init c = onward_from _ _ _ _ c.if-k-eq0.false c.requires.0 c.requires.1 c.holiday_at-holiday.ensures

pub overflow_add-i : goal.overflow_add-i
overflow_add-i c = omega (arith, onward_inside c.loop-at.invariant c.loop-at-test.true c.if-at-holiday.true)

pub returns-then-left-eq0 : goal.returns-then-left-eq0
returns-then-left-eq0 c = onward_reached c.loop-at.invariant c.loop-at-test.true c.if-at-holiday.false (sym c.is_weekend.ensures ∙ c.if-not-is_weekend.true) c.if-left-eq0.true

pub loop-at-preserved : goal.loop-at-preserved
loop-at-preserved c =
    let going = c.loop-at.invariant in
    let inside = c.loop-at-test.true in
    elim c.if-at-holiday.branch [
      | then-at-holiday w ↦ rw (w.left-is, w.i-is, w.holiday-is) (onward_holiday going inside w.if-at-holiday.true _ w.holiday_at-holiday-then-at-holiday.ensures)
      | else-at-holiday+then-not-is_weekend+else-left-eq0 w ↦ rw (w.left-is, w.i-is, w.holiday-is) (onward_business going inside w.if-at-holiday.false (sym w.is_weekend.ensures ∙ w.if-not-is_weekend.true) w.if-left-eq0.false)
      | else-at-holiday+else-not-is_weekend w ↦ rw (w.left-is, w.i-is, w.holiday-is) (onward_weekend going inside w.if-at-holiday.false (sym w.is_weekend.ensures ∙ w.if-not-is_weekend.false))
    ]

pub returns : goal.returns
returns c = onward_over c.loop-at.invariant c.loop-at-test.false
