-- `icma::long_parts` meets its contract: the walk back to the start, the first part, the walk on to
-- the end, and the last part.
use Prim.Native.Nat.{◌+◌}
use mathlib.Core.Path.{◌≡◌, sym, ◌∙◌}
use mathlib.Core.Bool.{true, false}
use native.Mathlib.Omega.{arith}
use Rattle.outcome.specs.Outcome.{given}
use Rattle.outcome.proofs.Refusals.{handed_on}
use Rattle.calendar.proofs.dates.Dates.{date-yes, number-to}
use Rattle.icma.specs.parts.Walk.{walk_on, walk_back, to_last, to_end, to_first, long_parts}
use Rattle.icma.specs.declared.parts.Parts.TheVariants.{Long}
use Rattle.icma.proofs.walks.Walking.{End, walk_from_is, from_ends}
use Rattle.icma.proofs.parts.Chain.{after_back, after_first, after_on, after_last}
use Rattle.icma.proofs.parts.long_parts.Goals.{In_ok-b, In_ok-e}
use Rattle.icma.proofs.parts.long_parts.Goals as goal

-- what the walk back found, and where it ended
back : (c : In_ok-b) → given c.in_ok-b.b ≡ walk_back c.args.q c.args.span.start c.args.base
back c = c.in_ok-b.ensures ∙ walk_from_is false c.args.q c.args.span.start c.args.base

back_end : (c : In_ok-b) → End c.in_ok-b.b
back_end c = from_ends false c.args.q c.args.span.start c.args.base _ c.requires.0 c.requires.2 (sym (back c))

-- and the walk on
on : (c : In_ok-e) → given c.in_ok-e.e ≡ walk_on c.args.p c.args.span.end c.args.base
on c = c.in_ok-e.ensures ∙ walk_from_is true c.args.p c.args.span.end c.args.base

on_end : (c : In_ok-e) → End c.in_ok-e.e
on_end c = from_ends true c.args.p c.args.span.end c.args.base _ c.requires.0 c.requires.1 (sym (on c))

pub walk-requires : goal.walk-requires
walk-requires c = (c.requires.0, omega (arith, number-to c.args.base (date-yes c.args.base c.requires.0)), c.requires.2)

pub returns-in_err-b : goal.returns-in_err-b
unfolding long_parts
returns-in_err-b c =
    handed_on _ _ (to_first c.args.p c.args.q c.args.span.start c.args.span.end c.args.base) c.from_residual.ensures.1
    (c.in_err-b.ensures ∙ walk_from_is false c.args.q c.args.span.start c.args.base)

pub cut_part-requires : goal.cut_part-requires
cut_part-requires c = (c.args.span.ordered.first, (back_end (goal.at.cut_part-requires c).In_ok-b).dated, c.requires.1)

pub returns-in_err-first : goal.returns-in_err-first
unfolding to_first
returns-in_err-first c =
    handed_on _ _ (to_end c.args.p c.args.q c.args.span.end c.args.base c.in_ok-b.b.count) c.from_residual-in_err-first.ensures.1 c.in_err-first.ensures
    ∙ after_back c.args.p c.args.q c.args.span.start c.args.span.end c.args.base _ (back (goal.at.returns-in_err-first c).In_ok-b)

pub returns-in_err-e : goal.returns-in_err-e
unfolding to_end
returns-in_err-e c =
    handed_on _ _ (to_last c.args.q c.args.span.end c.in_ok-first.first c.in_ok-b.b.count) c.from_residual-in_err-e.ensures.1
    (c.in_err-e.ensures ∙ walk_from_is true c.args.p c.args.span.end c.args.base)
    ∙ after_first c.args.p c.args.q c.args.span.start c.args.span.end c.args.base _ (back (goal.at.returns-in_err-e c).In_ok-b) _ c.in_ok-first.ensures

pub cut_part-requires-2 : goal.cut_part-requires-2
cut_part-requires-2 c = (c.args.span.ordered.last, (on_end (goal.at.cut_part-requires-2 c).In_ok-e).dated, c.requires.2)

pub returns-in_err-last : goal.returns-in_err-last
unfolding to_last
returns-in_err-last c =
    handed_on _ _ (λ last. given (Long c.in_ok-first.first last (c.in_ok-b.b.count + c.in_ok-e.e.count))) c.from_residual-in_err-last.ensures.1 c.in_err-last.ensures
    ∙ after_on c.args.p c.args.q c.args.span.start c.args.span.end c.args.base _ (back (goal.at.returns-in_err-last c).In_ok-b) _ c.in_ok-first.ensures _ (on (goal.at.returns-in_err-last c).In_ok-e)

pub overflow_add-result : goal.overflow_add-result
overflow_add-result c =
    let b = back_end (goal.at.overflow_add-result c).In_ok-b in
    let e = on_end (goal.at.overflow_add-result c).In_ok-e in
    record { fits = omega (arith, b.few, e.few) }

pub returns : goal.returns
returns c =
    after_last c.args.p c.args.q c.args.span.start c.args.span.end c.args.base _ (back (goal.at.returns c).In_ok-b) _ c.in_ok-first.ensures _ (on (goal.at.returns c).In_ok-e) _ c.in_ok-last.ensures
