-- `day_count_conv::year_fraction` meets its contract: how far off it is follows from its bits.
use mathlib.Core.Path.{◌∙◌}
use Rattle.outcome.proofs.Refusals.{refused_on}
use Rattle.day_count_conv.specs.conventions.Conventions.{fractions_in_f64}
use Rattle.day_count_conv.proofs.conventions.Judged.{judged_fraction}
use Rattle.day_count_conv.proofs.conventions.Bounds.{promised}
use Rattle.day_count_conv.proofs.fractions.year_fraction.Goals as goal

pub returns-in_err-span : goal.returns-in_err-span
returns-in_err-span c = promised c.args.convention c.args.start c.args.end c.args.x _ (refused_on _ _ c.from_residual.ensures.1 ∙ c.in_err-span.ensures)

pub fraction_judged-requires : goal.fraction_judged-requires
fraction_judged-requires c = (c.in_ok-span.span.ordered, c.in_ok-span.ensures.2)

pub returns : goal.returns
returns c =
    promised c.args.convention c.args.start c.args.end c.args.x _
    (c.fraction_judged.ensures ∙ judged_fraction fractions_in_f64 c.args.convention c.args.start c.args.end c.args.x c.in_ok-span.span c.in_ok-span.ensures)
