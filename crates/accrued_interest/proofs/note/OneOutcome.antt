-- No second answer satisfies the entry point's promise; and a refusal's number is never 0.
use Rattle.std.specs.Prelude.{Result, Float}
use mathlib.Core.Path.{◌≡◌, sym, ◌∙◌}
use mathlib.Core.Bool.{true}
use native.Mathlib.Omega.{arith}
use Rattle.outcome.proofs.Walks.{walk_numbered}
use Rattle.outcome.specs.declared.Refusal.{Refusal}
use Rattle.outcome.specs.Outcome.{given, Numbered}
use Rattle.outcome.proofs.Outcomes.{unless_numbered, then_numbered, pick_numbered}
use Rattle.outcome.proofs.Refusals.{same_result}
use Rattle.calendar.specs.dates.Dates.{is_date, is_before}
use Rattle.calendar.specs.declared.dates.Date.{Date}
use Rattle.time_period.specs.steps.Steps.{absent, stepped}
use Rattle.time_period.proofs.steps.OneOutcome.{step_numbered}
use Rattle.day_count_conv.specs.conventions.Conventions.{year_fraction}
use Rattle.day_count_conv.proofs.conventions.OneOutcome.{fraction_numbered}
use Rattle.bond.specs.note.Notes.{note_checks, first_coupon_end}
use Rattle.bond.specs.declared.note.Note.{Note}
use Rattle.bond.proofs.note.OneOutcome.{checks_numbered, first_end_numbered}
use Rattle.accrued_interest.specs.period.PeriodInterest.{elapsed_days, period_days, rolled}
use Rattle.accrued_interest.specs.note.Accrued.{running, next_period, goes_on, period_holding, Amounts, amount_due, accrued_in, accrued_from, accrued_on, accrued, AccruedPromise}
use Rattle.accrued_interest.specs.declared.period.CouponPeriod.{CouponPeriod}

pub one-accrued : (n : Note) (today : Date) (r s : Result Float Refusal) → AccruedPromise n today r → AccruedPromise n today s → r ≡ s
one-accrued n today r s p q = same_result r s (p.0 ∙ sym q.0)

-- the number of a refusal of the walk
holding_numbered : (n : Note) (today : Date) (p : CouponPeriod) → Numbered (period_holding n today p)
unfolding period_holding next_period
holding_numbered n today =
    walk_numbered (goes_on n today) (next_period n)
    (λ p. then_numbered (stepped n.period absent p.end) _ (step_numbered n.period.unit n.period.num p.end) (λ end. omega arith))
    3652060

-- and of what is accrued, whatever a fraction gives
module _ {A : Type 0} (v : Amounts A) (n : Note) (today : Date) where
  due_numbered : (p : CouponPeriod) → Numbered (amount_due v n today p)
  unfolding amount_due
  due_numbered p =
      then_numbered (year_fraction v.fractions n.day_count_convention p.start p.end (rolled n p)) (λ x. given (v.due n x (elapsed_days p today) (period_days p)))
      (fraction_numbered v.fractions p.start p.end n.day_count_convention (rolled n p)) (λ x. omega arith)

  from_numbered : (p : CouponPeriod) → Numbered (accrued_from v n today p)
  unfolding accrued_from accrued_in
  from_numbered p = then_numbered (period_holding n today p) (accrued_in v n today) (holding_numbered n today p) (λ q. pick_numbered (is_before q.end n.maturity) (amount_due v n today q) (given v.nothing) (due_numbered q) (omega arith))

  on_numbered : Numbered (accrued_on v n today)
  unfolding accrued_on
  on_numbered =
      unless_numbered (is_date today) 1 _ (omega arith)
      (pick_numbered (is_before today n.issue_date) (given v.nothing) _ (omega arith)
      (then_numbered (first_coupon_end n) _ (first_end_numbered n) (λ end. from_numbered (running n.issue_date end))))

pub accrued_numbered : {A : Type 0} (v : Amounts A) (n : Note) (today : Date) → Numbered (accrued v n today)
unfolding accrued
accrued_numbered v n today = then_numbered (note_checks true true n) (λ m. accrued_on v m today) (checks_numbered true true n) (λ m. on_numbered v m today)
