-- No second answer meets the promise, and a refusal's number is never 0.
use Rattle.std.specs.Prelude.{Result}
use mathlib.Core.Path.{◌≡◌, sym, ◌∙◌}
use native.Mathlib.Omega.{arith}
use lib.IntN.{ℤ}
use lib.Ieee.{Float}
use Rattle.outcome.specs.Outcome.{given, Numbered}
use Rattle.outcome.specs.declared.Refusal.{Refusal}
use Rattle.outcome.proofs.Outcomes.{unless_numbered}
use Rattle.outcome.proofs.Refusals.{same_result}
use Rattle.cash_flow.specs.round.RoundedAmounts.{is_roundable, power_of_ten, rounded_by, round2digits_of, RoundPromise}

pub one_rounded : (x : Float) (digits : ℤ) (r s : Result Float Refusal) → RoundPromise x digits r → RoundPromise x digits s → r ≡ s
one_rounded x digits r s p q = same_result r s (p ∙ sym q)

pub rounded_numbered : (x : Float) (digits : ℤ) → Numbered (round2digits_of x digits)
unfolding round2digits_of
rounded_numbered x digits = unless_numbered (is_roundable x digits) 15 (given (rounded_by x (power_of_ten digits))) (omega arith) (omega arith)
