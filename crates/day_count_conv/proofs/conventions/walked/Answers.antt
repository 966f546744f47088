-- `day_count_conv::walked` meets its contract: the frequency, the walk and the f64 of its parts.
use mathlib.Core.Path.{◌∙◌, ap}
use lib.Ieee.{Float}
use Rattle.outcome.specs.Outcome.{Outcome, given, and_then}
use Rattle.outcome.proofs.Refusals.{handed_on}
use Rattle.icma.specs.parts.Walk.{icma_parts}
use Rattle.day_count_conv.specs.conventions.Conventions.{parts_bits, walked_fraction, frequent_fraction}
use Rattle.day_count_conv.proofs.conventions.Whole.{regular_then, regular_above}
use Rattle.day_count_conv.proofs.conventions.walked.Goals as goal

pub returns-in_err-f : goal.returns-in_err-f
unfolding frequent_fraction walked_fraction
returns-in_err-f c =
    let s = c.args.span in
    handed_on _ _ (λ f. and_then (icma_parts c.args.p s.start s.end c.args.roll) (λ parts. given (parts_bits f parts))) c.from_residual.ensures.1 c.in_err-f.ensures
    ∙ regular_then c.args.p _

pub icma_parts-requires : goal.icma_parts-requires
icma_parts-requires c = (c.requires, regular_above c.args.p _ c.in_ok-f.ensures)

pub returns-in_err-parts : goal.returns-in_err-parts
unfolding frequent_fraction walked_fraction
returns-in_err-parts c =
    let s = c.args.span in
    handed_on _ _ (λ parts. given (parts_bits c.in_ok-f.f parts)) c.from_residual-in_err-parts.ensures.1 c.in_err-parts.ensures
    ∙ ap (λ o. and_then o (λ f. and_then (icma_parts c.args.p s.start s.end c.args.roll) (λ parts. given (parts_bits f parts)))) c.in_ok-f.ensures
    ∙ regular_then c.args.p _

pub returns : goal.returns
unfolding frequent_fraction walked_fraction
returns c =
    let s = c.args.span in
    ap {B = Outcome Float} given c.parts_bits.ensures
    ∙ ap (λ o. and_then o (λ parts. given (parts_bits c.in_ok-f.f parts))) c.in_ok-parts.ensures
    ∙ ap (λ o. and_then o (λ f. and_then (icma_parts c.args.p s.start s.end c.args.roll) (λ parts. given (parts_bits f parts)))) c.in_ok-f.ensures
    ∙ regular_then c.args.p _
