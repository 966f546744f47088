-- No second answer meets the promise.
use Prim.Native.Nat.{ℕ}
use mathlib.Core.Path.{◌≡◌}
use lib.IntN.{ℤ}
use Rattle.outcome.specs.Signs.{MagnitudePromise}
use Rattle.outcome.proofs.Outcomes.{one_value}

pub one_magnitude : (n : ℤ) (r s : ℕ) → MagnitudePromise n r → MagnitudePromise n s → r ≡ s
one_magnitude n r s p q = one_value r s p q
