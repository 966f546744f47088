-- No second answer satisfies an entry point's promise; and a refusal's number is never 0.
use Rattle.std.specs.Prelude.{Result}
use Prim.Native.Nat.{ℕ, ◌<◌}
use mathlib.Core.Path.{◌≡◌, refl, sym, ◌∙◌}
use mathlib.Core.Bool.{not}
use native.Mathlib.Omega.{arith}
use lib.IntN.{ℤ}
use Rattle.outcome.specs.Outcome.{Outcome, given, refused, Numbered}
use Rattle.outcome.specs.Refusals.{outcome_of}
use Rattle.outcome.specs.declared.Refusal.{Refusal}
use Rattle.outcome.proofs.Outcomes.{unless_numbered, Returns, returns, Only}
use Rattle.outcome.proofs.Refusals.{same_result}
use Rattle.calendar.specs.declared.dates.Date.{Date}
use Rattle.time_period.specs.steps.Periods.{period_zero, period_returned, frequency_returned, frequency_of, FrequencyPromise}
use Rattle.time_period.specs.steps.Steps.{absent, business_step, unit_step, is_least, inverse_of, InversePromise}
use Rattle.time_period.specs.declared.steps.TimePeriodUnit.{TimePeriodUnit}
use Rattle.time_period.specs.declared.steps.TimePeriodUnit.TheVariants.{Daily, BusinessDaily, Weekly, Monthly, Annual}
use Rattle.time_period.specs.declared.steps.TimePeriod.{TimePeriod}
use Rattle.time_period.proofs.steps.Frequencies.{frequent}
use Rattle.time_period.proofs.steps.Steps.{step_refuses}

-- a refusal returns its number and the zero
pub period_returned_lem : Returns outcome_of period_zero period_returned
period_returned_lem = returns outcome_of period_zero

pub frequency_returned_lem : Returns outcome_of 0 frequency_returned
frequency_returned_lem = returns outcome_of 0

module _ (p : TimePeriod) where
  pub one_frequency : (r s : Result ℕ Refusal) → FrequencyPromise p r → FrequencyPromise p s → r ≡ s
  one_frequency r s v w = same_result r s (v ∙ sym w)

  pub one_inverse : (r s : Result TimePeriod Refusal) → InversePromise p r → InversePromise p s → r ≡ s
  one_inverse r s v w = same_result r s (v ∙ sym w)

-- every refusal has its number; what is refused with one number only
pub numbered_by : {A : Type 0} (n : ℕ) → 0 < n → (o : Outcome A) → Only n o → Numbered o
numbered_by n h (given a) k = omega arith
numbered_by n h (refused m) k = let e = k m refl in omega arith

pub frequency_numbered : (p : TimePeriod) → Numbered (frequency_of p)
frequency_numbered p = numbered_by 5 (omega arith) (frequency_of p) (λ k e. ((frequent p).otherwise k e).0)

pub inverse_numbered : (p : TimePeriod) → Numbered (inverse_of p)
unfolding inverse_of
inverse_numbered p = unless_numbered (not (is_least p.num)) 4 _ (omega arith) (omega arith)

-- a step without a table: 12 for B, 1 for the others
pub step_numbered : (u : TimePeriodUnit) (n : ℤ) (t : Date) → Numbered (unit_step u n absent t)
unfolding business_step
step_numbered BusinessDaily n t = omega arith
step_numbered Daily n t = numbered_by 1 (omega arith) _ (step_refuses (record { num = n; unit = Daily }) absent t refl)
step_numbered Weekly n t = numbered_by 1 (omega arith) _ (step_refuses (record { num = n; unit = Weekly }) absent t refl)
step_numbered Monthly n t = numbered_by 1 (omega arith) _ (step_refuses (record { num = n; unit = Monthly }) absent t refl)
step_numbered Annual n t = numbered_by 1 (omega arith) _ (step_refuses (record { num = n; unit = Annual }) absent t refl)
