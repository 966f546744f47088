-- `term_text::read_period` meets its contract: two bytes or more, the unit of the last, and the
-- number before it.
use mathlib.Core.Path.{ap}
use native.Mathlib.Omega.{arith}
use lib.ListN.{length}
use borrow.Author.Tests.{le-leb, lt-leb}
use lib.IntN.{ℤ}
use mir.Facts.{to_z-of_z}
use Rattle.std.proofs.Common.{rules}
use Rattle.time_period.proofs.steps.Signs.{told}
use Rattle.time_period.specs.declared.steps.TimePeriod.{TimePeriod}
use Rattle.outcome.specs.Outcome.{Outcome, given}
use Rattle.outcome.specs.Refusals.{number_of}
use Rattle.outcome.proofs.Refusals.{handed_on}
use Rattle.term_text.specs.period.PeriodTexts.{number_part, period_read}
use Rattle.term_text.proofs.period.read_period.Goals as goal

pub returns-then-s-lt2 : goal.returns-then-s-lt2
unfolding period_read
returns-then-s-lt2 c = rw (lt-leb 2 (length c.args.s.now) c.if-s-lt2.true)

pub returns-in_err-unit : goal.returns-in_err-unit
unfolding period_read
returns-in_err-unit c = rw (le-leb 2 (length c.args.s.now) (omega arith)) (handed_on _ _ _ c.from_residual.ensures.1 c.in_err-unit.ensures)

pub returns-in_err-num : goal.returns-in_err-num
unfolding period_read number_part
returns-in_err-num c =
    rw (le-leb 2 (length c.args.s.now) (omega arith), ← c.in_ok-unit.ensures) (handed_on _ _ _ c.from_residual-in_err-num.ensures.1 (c.in_err-num.ensures number_of))

pub returns : goal.returns
unfolding period_read number_part
returns c =
    rw (le-leb 2 (length c.args.s.now) (omega arith), ← c.in_ok-unit.ensures, ← c.in_ok-num.ensures number_of)
    (ap {B = Outcome TimePeriod} (λ (z : ℤ). given (record { num = z; unit = c.in_ok-unit.unit })) (to_z-of_z (told c.in_ok-num.num (search rules))))
