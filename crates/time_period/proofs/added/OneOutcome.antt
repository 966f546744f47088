-- No second answer satisfies an entry point's promise; and a refusal's number is never 0.
use Rattle.std.specs.Prelude.{Result}
use mathlib.Core.Path.{◌≡◌, refl, sym, ◌∙◌}
use mathlib.Core.Bool.{Bool, true, false}
use native.Mathlib.Omega.{arith}
use Rattle.outcome.specs.Outcome.{Numbered, unless}
use Rattle.outcome.specs.declared.Refusal.{Refusal}
use Rattle.outcome.proofs.Outcomes.{unless_numbered, then_numbered}
use Rattle.outcome.proofs.Refusals.{same_result}
use Rattle.calendar.specs.dates.Dates.{is_date}
use Rattle.calendar.specs.declared.dates.Date.{Date}
use Rattle.time_period.specs.steps.Steps.{Holidays, stepped, inverse_of, served}
use Rattle.time_period.specs.declared.steps.TimePeriod.{TimePeriod}
use Rattle.time_period.proofs.steps.Steps.{step_refuses}
use Rattle.time_period.proofs.steps.OneOutcome.{numbered_by, inverse_numbered}
use Rattle.time_period.specs.added.Added.{accepted, judged_step, add_to, sub_from, AddPromise, SubPromise}

-- with a table and without
module _ (p : TimePeriod) (h : Holidays) (t : Date) (r s : Result Date Refusal) where
  pub one-add : AddPromise p h t r → AddPromise p h t s → r ≡ s
  one-add v w = same_result r s (v ∙ sym w)

  pub one-sub : SubPromise p h t r → SubPromise p h t s → r ≡ s
  one-sub v w = same_result r s (v ∙ sym w)

-- every refusal has its number
judged_numbered : (p : TimePeriod) (h : Holidays) (t : Date) → Numbered (judged_step p h t)
judged_numbered p h t = by (served p.unit h) refl
  where
    by : (b : Bool) → served p.unit h ≡ b → Numbered (unless b 12 (unless (accepted h) 13 (stepped p h t)))
    by true e = unless_numbered (accepted h) 13 _ (omega arith) (numbered_by 1 (omega arith) (stepped p h t) (step_refuses p h t e))
    by false e = omega arith

pub add_numbered : (p : TimePeriod) (h : Holidays) (t : Date) → Numbered (add_to p h t)
unfolding add_to
add_numbered p h t = unless_numbered (is_date t) 1 _ (omega arith) (judged_numbered p h t)

pub sub_numbered : (p : TimePeriod) (h : Holidays) (t : Date) → Numbered (sub_from p h t)
unfolding sub_from
sub_numbered p h t =
    unless_numbered (is_date t) 1 _ (omega arith)
    (then_numbered (inverse_of p) (λ q. judged_step q h t) (inverse_numbered p) (λ q. judged_numbered q h t))
