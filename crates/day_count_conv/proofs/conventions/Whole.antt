-- The fraction of one whole period, rolled from its start.
use Rattle.std.specs.Prelude.{None}
use Prim.Native.Nat.{ℕ}
use mathlib.Core.Path.{◌≡◌, refl, sym, ap}
use mathlib.Core.Bool.{Bool, true, false}
use lib.IntN.{pos}
use lib.Signed.{lt_z, le_z}
use Rattle.outcome.specs.Outcome.{Outcome, given, refused, unless, and_then}
use Rattle.outcome.proofs.Outcomes.{given_not_refused}
use Rattle.calendar.specs.dates.Dates.{is_date}
use Rattle.calendar.specs.declared.dates.Date.{Date}
use Rattle.time_period.specs.steps.Periods.{frequency_of}
use Rattle.time_period.specs.declared.steps.TimePeriod.{TimePeriod}
use Rattle.icma.specs.parts.Walk.{step, icma_parts}
use Rattle.icma.specs.declared.parts.Parts.{Parts}
use Rattle.icma.specs.declared.parts.Parts.TheVariants.{Long}
use Rattle.icma.proofs.parts.Laws.{one_period}
use Rattle.day_count_conv.specs.conventions.Conventions.{fractions_in_f64, parts_bits, walked_fraction, frequent_fraction}
use Rattle.day_count_conv.specs.conventions.Whole.{regular, whole_period}
use Rattle.day_count_conv.proofs.conventions.Numbers.{above_one}

-- what the walk finds, where the number is not refused
walked_once : (p : TimePeriod) (start end : Date) (f : ℕ) → is_date start ≡ true → step p start ≡ given end → walked_fraction fractions_in_f64 p start end start f ≡ unless (le_z (pos 1) p.num) 14 (given (parts_bits f (Long None None 1)))
unfolding walked_fraction
walked_once p start end f d e = by (le_z (pos 1) p.num) refl
  where
    by : (b : Bool) → le_z (pos 1) p.num ≡ b → unless b 14 (and_then (icma_parts p start end start) (λ parts. given (parts_bits f parts))) ≡ unless b 14 (given (parts_bits f (Long None None 1)))
    by true h = ap (λ (o : Outcome Parts). and_then o (λ parts. given (parts_bits f parts))) (one_period p start end d (above_one p.num h) e)
    by false h = refl

pub whole_is : (p : TimePeriod) (start end : Date) → is_date start ≡ true → step p start ≡ given end → whole_period p ≡ frequent_fraction fractions_in_f64 p start end start
unfolding whole_period frequent_fraction
whole_is p start end d e = by (frequency_of p)
  where
    by : (o : Outcome ℕ) → and_then o (λ f. unless (le_z (pos 1) p.num) 14 (given (parts_bits f (Long None None 1)))) ≡ and_then o (walked_fraction fractions_in_f64 p start end start)
    by (given f) = sym (walked_once p start end f d e)
    by (refused k) = refl

-- the frequency, and then what is made of it
pub regular_then : {A : Type 0} (p : TimePeriod) (g : ℕ → Outcome A) → and_then (regular p) g ≡ and_then (frequency_of p) (λ f. unless (le_z (pos 1) p.num) 14 (g f))
unfolding regular
regular_then p g = by (frequency_of p) (le_z (pos 1) p.num)
  where
    by : (o : Outcome ℕ) (b : Bool) → and_then (and_then o (λ f. unless b 14 (given f))) g ≡ and_then o (λ f. unless b 14 (g f))
    by (given f) true = refl
    by (given f) false = refl
    by (refused k) b = refl

-- and its number is above 0
pub regular_above : (p : TimePeriod) (f : ℕ) → given f ≡ regular p → lt_z (pos 0) p.num ≡ true
unfolding regular
regular_above p f e = by (frequency_of p) (le_z (pos 1) p.num) refl e
  where
    by : (o : Outcome ℕ) (b : Bool) → le_z (pos 1) p.num ≡ b → given f ≡ and_then o (λ f. unless b 14 (given f)) → lt_z (pos 0) p.num ≡ true
    by (given k) true h e = above_one p.num h
    by (given k) false h e = absurd (given_not_refused e)
    by (refused k) b h e = absurd (given_not_refused e)
