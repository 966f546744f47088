-- No second answer satisfies a promise.
use Rattle.std.specs.Prelude.{Result}
use Rattle.outcome.specs.Refusals.{outcome_of}
use Rattle.outcome.specs.declared.Refusal.{Refusal}
use Prim.Native.Nat.{ℕ}
use mathlib.Core.Path.{◌≡◌, sym, ◌∙◌}
use Rattle.outcome.proofs.Outcomes.{one_value}
use Rattle.outcome.proofs.Refusals.{same_result}
use Rattle.time_period.specs.declared.steps.TimePeriodUnit.{TimePeriodUnit}
use Rattle.day_count_conv.specs.declared.conventions.DayCountConv.{DayCountConv}
use Rattle.day_adjust.specs.declared.DayAdjust.{DayAdjust}
use Rattle.packed_codes.specs.Codes.{unit_of_code, code_of_unit, convention_of_code, code_of_convention, adjustment_of_code, code_of_adjustment}

pub one-unit_of_code : (n : ℕ) (r s : Result TimePeriodUnit Refusal) → outcome_of r ≡ unit_of_code n → outcome_of s ≡ unit_of_code n → r ≡ s
one-unit_of_code n r s p q = same_result r s (p ∙ sym q)

pub one-convention_of_code : (n : ℕ) (r s : Result DayCountConv Refusal) → outcome_of r ≡ convention_of_code n → outcome_of s ≡ convention_of_code n → r ≡ s
one-convention_of_code n r s p q = same_result r s (p ∙ sym q)

pub one-adjustment_of_code : (n : ℕ) (r s : Result DayAdjust Refusal) → outcome_of r ≡ adjustment_of_code n → outcome_of s ≡ adjustment_of_code n → r ≡ s
one-adjustment_of_code n r s p q = same_result r s (p ∙ sym q)

pub one-code_of_unit : (u : TimePeriodUnit) (r s : ℕ) → r ≡ code_of_unit u → s ≡ code_of_unit u → r ≡ s
one-code_of_unit u r s p q = one_value r s p q

pub one-code_of_convention : (c : DayCountConv) (r s : ℕ) → r ≡ code_of_convention c → s ≡ code_of_convention c → r ≡ s
one-code_of_convention c r s p q = one_value r s p q

pub one-code_of_adjustment : (a : DayAdjust) (r s : ℕ) → r ≡ code_of_adjustment a → s ≡ code_of_adjustment a → r ≡ s
one-code_of_adjustment a r s p q = one_value r s p q
