-- `rates::value_on` meets its contract: the flow's value by its day. Laws of Counted.
use mathlib.Core.Path.{sym, ◌∙◌}
use Rattle.rates.proofs.factors.Numbers.{finite_same}
use Rattle.rates.proofs.plain.Counted.{equal_currency, flow-counted}
use Rattle.rates.proofs.plain.value_on.Goals as goal

pub returns : goal.returns
returns c =
    let a = c.args in
    rw (c.simple_factor.ensures, c.from.ensures, c.from-2.ensures, c.year_days.ensures)
    (sym (flow-counted a.rate a.today c.in-Some.from a.day (sym c.in-Some.is ∙ c.requires) c.if-from-day.true c.if-day-le-LAST_DAY.true a.currency a.amount (equal_currency _ _ (sym c.eq.ensures ∙ c.if-eq.true)) (sym (finite_same a.amount) ∙ sym c.is_finite.ensures.value ∙ c.if-is_finite.true)))
