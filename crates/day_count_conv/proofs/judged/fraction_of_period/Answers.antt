-- `day_count_conv::fraction_of_period` meets its contract: under ICMA one whole period takes no
-- walk.
use mathlib.Core.Path.{sym, ◌∙◌, ap}
use Rattle.day_count_conv.specs.conventions.Conventions.{fractions_in_f64, rolled_from, by_rule}
use Rattle.day_count_conv.specs.declared.conventions.DayCountConv.{DayCountConv}
use Rattle.day_count_conv.proofs.conventions.Whole.{whole_is}
use Rattle.day_count_conv.proofs.judged.fraction_of_period.Goals as goal

pub returns-in-ActActICMA : goal.returns-in-ActActICMA
returns-in-ActActICMA c = c.whole_period.ensures ∙ whole_is c.args.p c.args.from c.args.to c.requires.0.first c.requires.1 ∙ ap (λ (r : DayCountConv). by_rule fractions_in_f64 r c.args.from c.args.to (rolled_from c.args.from c.args.p)) (sym c.in-ActActICMA.is)
