-- `accrued_interest::accrued_in` meets its contract: nothing from the last period on, else the
-- fraction's refusal, or what it makes due.
use mathlib.Core.Path.{◌≡◌, sym, ◌∙◌, ap}
use mathlib.Core.Bool.{Bool, true, false, not}
use native.Mathlib.Omega.{arith}
use lib.Ieee.{Float}
use Rattle.outcome.specs.Outcome.{Outcome, given, and_then}
use Rattle.outcome.proofs.Refusals.{handed_on}
use Rattle.day_count_conv.specs.conventions.Conventions.{fractions_in_f64}
use Rattle.day_count_conv.proofs.conventions.Judged.{span_fraction, roll_dated_lem}
use Rattle.calendar.specs.dates.Dates.{is_before}
use Rattle.accrued_interest.specs.period.PeriodInterest.{elapsed_days, period_days, rolled, due_bits, amount_due, accrued_in}
use Rattle.accrued_interest.proofs.period.Order.{at_least}
use Rattle.accrued_interest.proofs.period.accrued_in.Goals as goal

-- what the test of the last period says
last : (b r : Bool) → r ≡ not b → r ≡ true → b ≡ false
last true r e h = sym h ∙ e
last false r e h = cc

more : (b r : Bool) → r ≡ not b → r ≡ false → b ≡ true
more true r e h = cc
more false r e h = sym h ∙ e

pub returns-then-ge : goal.returns-then-ge
unfolding accrued_in
returns-then-ge c =
    let over : is_before c.args.p.end c.args.note.maturity ≡ false = last _ _ (at_least _ _ _ c.ge.ensures) c.if-ge.true in
    rw over

pub returns-in_err-fraction : goal.returns-in_err-fraction
unfolding accrued_in amount_due
returns-in_err-fraction c =
    let n = c.args.note in
    let p = c.args.p in
    let b = c.requires.1 in
    let due : is_before p.end n.maturity ≡ true = more _ _ (at_least _ _ _ c.ge.ensures) c.if-ge.false in
    rw due
    (handed_on _ _ (λ x. given (due_bits n x (elapsed_days p c.args.today) (period_days p))) c.from_residual.ensures.1
    ((rw c.rolled_from-terms.ensures at c.in_err-fraction.ensures)
    ∙ sym (span_fraction fractions_in_f64 n.day_count_convention p.start p.end (rolled n p) (record { first = b.started; last = b.ended; order = omega (arith, b.forward) }) (roll_dated_lem n.day_count_convention p.start b.started))))

pub returns : goal.returns
unfolding accrued_in amount_due
returns c =
    let n = c.args.note in
    let p = c.args.p in
    let b = c.requires.1 in
    let due : is_before p.end n.maturity ≡ true = more _ _ (at_least _ _ _ c.ge.ensures) c.if-ge.false in
    rw (due, c.interest-amount.ensures, c.from.ensures, c.from-2.ensures, c.from-3.ensures, c.day_of_date.ensures, c.day_of_date-2.ensures, c.day_of_date-start.ensures)
    (ap (λ (o : Outcome Float). and_then o (λ x. given (due_bits n x (elapsed_days p c.args.today) (period_days p))))
    ((rw c.rolled_from-terms.ensures at c.in_ok-fraction.ensures)
    ∙ sym (span_fraction fractions_in_f64 n.day_count_convention p.start p.end (rolled n p) (record { first = b.started; last = b.ended; order = omega (arith, b.forward) }) (roll_dated_lem n.day_count_convention p.start b.started))))
