-- What the inner functions say of one whole period; no promise of an entry point rests on this.
use Rattle.std.specs.Prelude.{ℕ, pos, Float, None}
use Rattle.std.specs.Int.Signed.{le_z}
use Rattle.outcome.specs.Outcome.{Outcome, given, unless, and_then}
use Rattle.time_period.specs.steps.Periods.{frequency_of}
use Rattle.time_period.specs.declared.steps.TimePeriod.{TimePeriod}
use Rattle.icma.specs.declared.parts.Parts.TheVariants.{Long}
use Rattle.day_count_conv.specs.conventions.Conventions.{parts_bits}

-- the frequency of a period that ICMA takes
unfoldable pub regular : TimePeriod → Outcome ℕ
regular p = and_then (frequency_of p) (λ f. unless (le_z (pos 1) p.num) 14 (given f))

-- the refusals of its frequency and its number; or the fraction of no broken part and one whole
unfoldable pub whole_period : TimePeriod → Outcome Float
whole_period p = and_then (frequency_of p) (λ f. unless (le_z (pos 1) p.num) 14 (given (parts_bits f (Long None None 1))))
