-- `day_count_conv::judged` meets its contract: the checks in their order.
use Rattle.std.proofs.Common.{rules}
use mathlib.Core.Path.{sym, ◌∙◌}
use Rattle.calendar.proofs.dates.Compared.{before_by_less}
use Rattle.day_count_conv.specs.conventions.Conventions.{year_fraction}
use Rattle.day_count_conv.proofs.conventions.Judged.{spans}
use Rattle.day_count_conv.proofs.fractions.judged.Goals as goal

pub returns-then-not-is_date : goal.returns-then-not-is_date
unfolding year_fraction
returns-then-not-is_date c = search rules

pub returns-then-lt : goal.returns-then-lt
unfolding year_fraction
returns-then-lt c =
    rw (sym c.is_date.ensures ∙ c.if-not-is_date.false, sym c.is_date-else-not-is_date.ensures ∙ c.if-not-is_date-2.false, sym c.roll_dated.ensures ∙ c.if-not-roll_dated.false, sym (before_by_less c.args.end c.args.start _ c.lt.ensures) ∙ c.if-lt.true)

pub invariant_of-result : goal.invariant_of-result
invariant_of-result c =
    record {
      ordered =
          spans c.args.start c.args.end (sym c.is_date.ensures ∙ c.if-not-is_date.false) (sym c.is_date-else-not-is_date.ensures ∙ c.if-not-is_date-2.false)
          (sym (before_by_less c.args.end c.args.start _ c.lt.ensures) ∙ c.if-lt.false);
    }
