-- No second answer satisfies an entry point's promise; and a refusal's number is never 0.
use Rattle.time_period.specs.declared.steps.TimePeriod.{TimePeriod}
use Rattle.std.specs.Prelude.{Result, Option, Some, None, Float}
use mathlib.Core.Path.{◌≡◌, sym, ◌∙◌}
use mathlib.Core.Bool.{not}
use native.Mathlib.Omega.{arith}
use lib.IntN.{pos}
use lib.Signed.{le_z}
use Rattle.outcome.specs.Outcome.{given, plus_zero, Numbered, both}
use Rattle.outcome.specs.Refusals.{outcome_of}
use Rattle.outcome.specs.declared.Refusal.{Refusal}
use Rattle.outcome.proofs.Outcomes.{unless_numbered, then_numbered, Returns, returns}
use Rattle.outcome.proofs.Refusals.{same_result}
use Rattle.calendar.specs.dates.Dates.{is_date, is_before}
use Rattle.calendar.specs.declared.dates.Date.{Date}
use Rattle.time_period.specs.steps.Periods.{frequency_of}
use Rattle.time_period.proofs.steps.OneOutcome.{frequency_numbered}
use Rattle.day_fraction.specs.Fractions.{impossible}
use Rattle.day_fraction.specs.declared.SimpleRule.{SimpleRule}
use Rattle.icma.specs.parts.Walk.{icma_parts}
use Rattle.icma.proofs.parts.Numbered.{parts_numbered}
use Rattle.day_count_conv.specs.conventions.Conventions.{fraction_returned, Values, simple_fraction, walked_fraction, frequent_fraction, icma_fraction, by_rule, roll_dated, year_fraction, FractionPromise}
use Rattle.day_count_conv.specs.declared.conventions.DayCountConv.{DayCountConv}
use Rattle.day_count_conv.specs.declared.conventions.DayCountConv.TheVariants as conv
use Rattle.day_count_conv.specs.declared.conventions.NoteTerms.{NoteTerms}

-- a refusal returns its number and the zero
pub fraction_returned_lem : Returns outcome_of plus_zero fraction_returned
fraction_returned_lem = returns outcome_of plus_zero

pub one_fraction : (rule : DayCountConv) (start end : Date) (x : NoteTerms) (r s : Result Float Refusal) → FractionPromise rule start end x r → FractionPromise rule start end x s → r ≡ s
one_fraction rule start end x r s p q = same_result r s (p.0 ∙ sym q.0)

-- the number of a refusal, whatever the rules give
module _ {A : Type 0} (v : Values A) (start end : Date) where
  simple_numbered : (rule : SimpleRule) → Numbered (simple_fraction v rule start end)
  unfolding simple_fraction
  simple_numbered rule = unless_numbered (not (impossible rule start end)) 9 _ (omega arith) (omega arith)

  icma_numbered : (r : Option Date) (p : Option TimePeriod) → Numbered (icma_fraction v r p start end)
  unfolding frequent_fraction walked_fraction
  icma_numbered (Some roll) (Some p) =
      then_numbered (frequency_of p) (walked_fraction v p start end roll) (frequency_numbered p)
      (λ f. unless_numbered (le_z (pos 1) p.num) 14 _ (omega arith)
      (then_numbered (icma_parts p start end roll) (λ parts. given (v.walked f parts)) (parts_numbered p start end roll) (λ parts. omega arith)))
  icma_numbered (Some roll) None = omega arith
  icma_numbered None p = omega arith

  rule_numbered : (rule : DayCountConv) (x : NoteTerms) → Numbered (by_rule v rule start end x)
  rule_numbered conv.Act365 x = simple_numbered _
  rule_numbered conv.Act360 x = simple_numbered _
  rule_numbered conv.Act365l x = simple_numbered _
  rule_numbered conv.D30_360 x = simple_numbered _
  rule_numbered conv.D30E360 x = simple_numbered _
  rule_numbered conv.ActActICMA x = icma_numbered x.roll x.period

  pub fraction_numbered : (rule : DayCountConv) (x : NoteTerms) → Numbered (year_fraction v rule start end x)
  unfolding year_fraction
  fraction_numbered rule x =
      unless_numbered (both (is_date start) (both (is_date end) (roll_dated rule x.roll))) 1 _ (omega arith)
      (unless_numbered (not (is_before end start)) 19 _ (omega arith) (rule_numbered rule x))
