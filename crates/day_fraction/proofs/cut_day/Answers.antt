-- `day_fraction::cut_day` meets its contract: the test is that of `cut`.
use borrow.Author.Tests.{eq-eqb, ne_eqb}
use Rattle.day_fraction.proofs.cut_day.Goals as goal

pub returns-then-day-eq31 : goal.returns-then-day-eq31
returns-then-day-eq31 c = rw (eq-eqb c.args.day 31 c.if-day-eq31.true)

pub returns-else-day-eq31 : goal.returns-else-day-eq31
returns-else-day-eq31 c = rw (ne_eqb c.args.day 31 c.if-day-eq31.false)
