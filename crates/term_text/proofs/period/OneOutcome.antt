-- No second answer satisfies an entry point's promise; and a refusal's number is never 0.
use Rattle.std.specs.Prelude.{Result}
use Prim.Native.Nat.{ℕ, ◌-◌}
use mathlib.Core.Path.{◌≡◌, sym, ◌∙◌}
use mathlib.Core.List.{List}
use native.Mathlib.Omega.{arith}
use lib.Dec.{leb, eqb}
use lib.ListN.{length, take, get_or}
use Rattle.outcome.specs.Outcome.{given, refused, Numbered}
use Rattle.outcome.specs.Refusals.{outcome_of}
use Rattle.outcome.specs.declared.Refusal.{Refusal}
use Rattle.outcome.proofs.Outcomes.{unless_numbered, then_numbered, pick_numbered}
use Rattle.outcome.proofs.Refusals.{same_result}
use Rattle.number_text.specs.read.Reading.{signed_number}
use Rattle.number_text.proofs.read.Decimals.{signed_numbered}
use Rattle.number_text.specs.write.Writing.{Written}
use Rattle.number_text.proofs.write.OneOutcome.{one_write}
use Rattle.time_period.specs.declared.steps.TimePeriodUnit.TheVariants.{Daily, BusinessDaily, Weekly, Monthly, Annual}
use Rattle.time_period.specs.declared.steps.TimePeriod.{TimePeriod}
use Rattle.term_text.specs.period.PeriodTexts.{unit_of_letter, number_part, period_read, period_text, ReadPeriodPromise}

pub one_read : (t : List ℕ) (r s : Result TimePeriod Refusal) → ReadPeriodPromise t r → ReadPeriodPromise t s → r ≡ s
one_read t r s p q = same_result r s (p ∙ sym q)

-- the answer and the bytes
pub one_written : (p : TimePeriod) (d e f : List ℕ) (r s : Result ℕ Refusal) → Written d e (period_text p) (outcome_of r) → Written d f (period_text p) (outcome_of s) → (r ≡ s) × (e ≡ f)
one_written p d e f r s v w = one_write d e f (period_text p) r s v w

-- every refusal has its number
unit_numbered : (b : ℕ) → Numbered (unit_of_letter b)
unfolding unit_of_letter
unit_numbered b =
    pick_numbered (eqb b 68) (given Daily) _ (omega arith)
    (pick_numbered (eqb b 66) (given BusinessDaily) _ (omega arith)
    (pick_numbered (eqb b 87) (given Weekly) _ (omega arith)
    (pick_numbered (eqb b 77) (given Monthly) _ (omega arith)
    (pick_numbered (eqb b 89) (given Annual) (refused 3) (omega arith) (omega arith)))))

pub read_numbered : (s : List ℕ) → Numbered (period_read s)
unfolding period_read number_part
read_numbered s =
    unless_numbered (leb 2 (length s)) 2 _ (omega arith)
    (then_numbered (unit_of_letter (get_or s (length s - 1) 0)) (number_part (take (length s - 1) s)) (unit_numbered _)
    (λ u. then_numbered (signed_number 4 (take (length s - 1) s)) (λ n. given (record { num = n; unit = u })) (signed_numbered 4 _ (omega arith)) (λ n. omega arith)))
