-- Periods, and how many of them make a year.
use Rattle.std.specs.Prelude.{ℕ, ◌≡◌, eqb, pos, nat_abs, Result}
use Rattle.outcome.specs.Outcome.{Outcome, given, refused, returned, pick}
use Rattle.outcome.specs.Refusals.{outcome_of}
use Rattle.outcome.specs.declared.Refusal.{Refusal}
use Rattle.time_period.specs.declared.steps.TimePeriodUnit.{TimePeriodUnit}
use Rattle.time_period.specs.declared.steps.TimePeriodUnit.TheVariants.{Daily, BusinessDaily, Weekly, Monthly, Annual}
use Rattle.time_period.specs.declared.steps.TimePeriod.{TimePeriod}

-- the zero of a period, and what is returned of an answer
abbrev pub period_zero : TimePeriod
period_zero = record { num = pos 0; unit = Daily }

abbrev pub period_returned : Result TimePeriod Refusal → ℕ × TimePeriod
period_returned r = returned period_zero (outcome_of r)

abbrev pub frequency_returned : Result ℕ Refusal → ℕ × ℕ
frequency_returned r = returned 0 (outcome_of r)

-- 1, 3, 6, 12 months give 12, 4, 2, 1
unfoldable pub months_frequency : ℕ → Outcome ℕ
months_frequency n =
    pick (eqb n 1) (given 12)
    (pick (eqb n 3) (given 4)
    (pick (eqb n 6) (given 2)
    (pick (eqb n 12) (given 1)
    (refused 5))))

-- one year gives 1
unfoldable pub years_frequency : ℕ → Outcome ℕ
years_frequency n = pick (eqb n 1) (given 1) (refused 5)

-- all else 5
abbrev pub unit_frequency : TimePeriodUnit → ℕ → Outcome ℕ
unit_frequency Daily n = refused 5
unit_frequency BusinessDaily n = refused 5
unit_frequency Weekly n = refused 5
unit_frequency Monthly n = months_frequency n
unit_frequency Annual n = years_frequency n

-- signs ignored
unfoldable pub frequency_of : TimePeriod → Outcome ℕ
frequency_of p = unit_frequency p.unit (nat_abs p.num)

-- what the entry points promise of their result r
abbrev pub FrequencyPromise : TimePeriod → Result ℕ Refusal → Type 0
FrequencyPromise p r = outcome_of r ≡ frequency_of p
