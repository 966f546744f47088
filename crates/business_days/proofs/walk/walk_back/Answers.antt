-- `walk_back` meets its contract: at each day what is left to do is the whole answer.
use Rattle.std.proofs.Common.{sym, ◌∙◌, ap, ℕ}
use Rattle.business_days.specs.table.Business.{prev_from, earlier_from}
use Rattle.business_days.proofs.table.Steps.{no_step}
use Rattle.business_days.proofs.walk.Walks.{backward_from, backward_over, backward_inside, backward_holiday, backward_weekend, backward_reached, backward_business}
use Rattle.business_days.proofs.walk.walk_back.Goals as goal

pub returns-then-k-eq0 : goal.returns-then-k-eq0
returns-then-k-eq0 c = sym (no_step (prev_from c.args.part.now) c.args.n) ∙ ap (λ (j : ℕ). earlier_from c.args.part.now j c.args.n) (sym c.if-k-eq0.true)

pub loop-at-init : goal.loop-at-init
loop-at-init c = backward_from _ _ _ _ _ c.if-k-eq0.false c.requires.0 c.requires.1 c.requires.2 c.holiday_before-holiday.ensures

pub overflow_sub-i : goal.overflow_sub-i
overflow_sub-i c = backward_inside c.loop-at.invariant c.loop-at-test.true c.if-at-holiday.true

pub loop-at-preserved-then-at-holiday : goal.loop-at-preserved-then-at-holiday
loop-at-preserved-then-at-holiday c = backward_holiday c.loop-at.invariant c.loop-at-test.true c.if-at-holiday.true _ c.holiday_before-holiday-then-at-holiday.ensures

pub returns-then-left-eq0 : goal.returns-then-left-eq0
returns-then-left-eq0 c = backward_reached c.loop-at.invariant c.loop-at-test.true c.if-at-holiday.false (sym c.is_weekend.ensures ∙ c.if-not-is_weekend.true) c.if-left-eq0.true

pub loop-at-preserved-else-left-eq0 : goal.loop-at-preserved-else-left-eq0
loop-at-preserved-else-left-eq0 c = backward_business c.loop-at.invariant c.loop-at-test.true c.if-at-holiday.false (sym c.is_weekend.ensures ∙ c.if-not-is_weekend.true) c.if-left-eq0.false

pub loop-at-preserved : goal.loop-at-preserved
loop-at-preserved c = backward_weekend c.loop-at.invariant c.loop-at-test.true c.if-at-holiday.false (sym c.is_weekend.ensures ∙ c.if-not-is_weekend.false)

pub returns : goal.returns
returns c = backward_over c.loop-at.invariant c.loop-at-test.false
