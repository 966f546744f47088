-- `icma::icma_parts` meets its contract: one period from the roll date is one whole period, and else
-- the base decides.
use Rattle.std.proofs.Common.{rules}
use mathlib.Core.Path.{◌≡◌, sym, ◌∙◌, ap, subst}
use mathlib.Core.Bool.{true}
use lib.IntN.{pos}
use lib.Signed.{lt_z}
use mir.Syntax.{w32}
use mir.Val.{SFits}
use Rattle.outcome.specs.Outcome.{given}
use Rattle.outcome.proofs.Refusals.{handed_on}
use Rattle.calendar.proofs.dates.Compared.{before_by_less, same_by_equal}
use Rattle.calendar.proofs.dates.Order.{same-yes}
use Rattle.time_period.specs.declared.steps.TimePeriod.{TimePeriod}
use Rattle.time_period.proofs.steps.Signs.{negative_back}
use Rattle.icma.specs.parts.Walk.{negated, base_from, parts_from, long_parts, icma_parts}
use Rattle.icma.proofs.parts.Steps.{negated_is, base_ends}
use Rattle.icma.proofs.parts.Laws.{one_period, led}
use Rattle.icma.proofs.parts.Chain.{base_before, base_not_before}
use Rattle.icma.proofs.parts.icma_parts.Goals.{In_ok-base}
use Rattle.icma.proofs.parts.icma_parts.Goals as goal

-- what was found, by the negated period
found : (c : In_ok-base) → given c.in_ok-base.base ≡ base_from c.args.p (negated c.args.p) c.args.span.start c.args.span.end c.args.roll
found c =
    let fits : SFits w32 c.args.p.num = search rules in
    c.in_ok-base.ensures ∙ ap (λ q. base_from c.args.p q c.args.span.start c.args.span.end c.args.roll) (negated_is c.args.p fits c.requires.1)

pub returns-then-leads : goal.returns-then-leads
returns-then-leads c =
    let s = c.args.span in
    let e = same-yes c.args.roll s.start (sym (same_by_equal _ _ _ c.eq.ensures) ∙ c.if-eq.true) in
    sym (one_period c.args.p c.args.roll s.end c.requires.0 c.requires.1 (led _ s.end (sym c.leads.ensures ∙ c.if-leads.true)))
    ∙ ap (λ r. icma_parts c.args.p r s.end c.args.roll) e

pub returns-in_err-base : goal.returns-in_err-base
unfolding icma_parts
returns-in_err-base c =
    let s = c.args.span in
    let fits : SFits w32 c.args.p.num = search rules in
    handed_on _ _ (parts_from c.args.p (negated c.args.p) s.start s.end) c.from_residual.ensures.1
    (c.in_err-base.ensures ∙ ap (λ q. base_from c.args.p q s.start s.end c.args.roll) (negated_is c.args.p fits c.requires.1))

pub short_parts-requires : goal.short_parts-requires
short_parts-requires c = (base_ends c.args.p c.args.span.start c.args.span.end c.args.roll _ c.requires.0 c.requires.1 (sym (found (goal.at.short_parts-requires c).In_ok-base)), c.requires.1)

pub returns-then-lt : goal.returns-then-lt
returns-then-lt c =
    c.short_parts.ensures
    ∙ base_before c.args.p c.args.span.start c.args.span.end c.args.roll _ (found (goal.at.returns-then-lt c).In_ok-base) (sym (before_by_less _ _ _ c.lt.ensures) ∙ c.if-lt.true)

pub long_parts-requires : goal.long_parts-requires
long_parts-requires c =
    let fits : SFits w32 c.args.p.num = search rules in (
      base_ends c.args.p c.args.span.start c.args.span.end c.args.roll _ c.requires.0 c.requires.1 (sym (found (goal.at.long_parts-requires c).In_ok-base)),
      c.requires.1,
      subst (λ (q : TimePeriod). lt_z q.num (pos 0) ≡ true) (sym (negated_is c.args.p fits c.requires.1)) (negative_back c.args.p.num c.requires.1),
    )

pub returns : goal.returns
returns c =
    let s = c.args.span in
    let fits : SFits w32 c.args.p.num = search rules in
    c.long_parts.ensures
    ∙ ap (λ q. long_parts c.args.p q s.start s.end c.in_ok-base.base.at) (negated_is c.args.p fits c.requires.1)
    ∙ base_not_before c.args.p s.start s.end c.args.roll _ (found (goal.at.returns c).In_ok-base) (sym (before_by_less _ _ _ c.lt.ensures) ∙ c.if-lt.false)
