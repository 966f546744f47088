-- `day_count_conv::fraction_between` meets its contract: how far off it is follows from its bits.
use mathlib.Core.Path.{◌∙◌}
use Rattle.outcome.proofs.Refusals.{refused_on}
use Rattle.day_count_conv.specs.conventions.Conventions.{fractions_in_f64}
use Rattle.day_count_conv.proofs.conventions.Judged.{judged_fraction}
use Rattle.day_count_conv.proofs.conventions.Bounds.{promised}
use Rattle.day_count_conv.proofs.fractions.fraction_between.Goals as goal

pub returns-in_err-span : goal.returns-in_err-span
returns-in_err-span c = rw c.no_terms-x.ensures at (promised c.args.convention c.args.from c.args.to c.no_terms-x.result _ (refused_on _ _ c.from_residual.ensures.1 ∙ c.in_err-span.ensures))

pub returns : goal.returns
returns c =
    rw c.no_terms-x.ensures at
    (promised c.args.convention c.args.from c.args.to c.no_terms-x.result _
    (c.by_rule.ensures ∙ judged_fraction fractions_in_f64 c.args.convention c.args.from c.args.to c.no_terms-x.result c.in_ok-span.span c.in_ok-span.ensures))
