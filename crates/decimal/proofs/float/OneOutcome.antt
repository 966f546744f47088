-- No second outcome meets a promise: each fixes the answer and the bytes. A refusal's number is
-- never 0.
use Rattle.std.specs.Prelude.{Result}
use Prim.Native.Nat.{ℕ}
use mathlib.Core.Path.{◌≡◌}
use mathlib.Core.List.{List}
use native.Mathlib.Omega.{arith}
use lib.ListN.{length}
use lib.Ieee.{Float}
use lib.Ieee.Scale.{finite}
use Rattle.outcome.specs.Outcome.{and_then, passed_as, Numbered}
use Rattle.outcome.specs.declared.Refusal.{Refusal}
use Rattle.outcome.proofs.Outcomes.{unless_numbered, passed_numbered}
use Rattle.number_text.specs.write.Writing.{written_length, Puts}
use Rattle.number_text.specs.declared.write.Writer.{Writer}
use Rattle.number_text.proofs.write.OneOutcome.{one_writes, one_takes, one_put}
use Rattle.number_text.proofs.write.Shown.{writes_numbered}
use Rattle.decimal.specs.float.Decimal.{decimal_text16, decimal_shown, DecimalTakes, DecimalWrites}

pub one-length : (x : Float) (r s : Result ℕ Refusal) → DecimalTakes x r → DecimalTakes x s → r ≡ s
one-length x r s p q = one_takes (decimal_shown x) r s p q

pub one_written : (x : Float) (d e f : List ℕ) (r s : Result ℕ Refusal) → DecimalWrites x d e r → DecimalWrites x d f s → (r ≡ s) × (e ≡ f)
one_written x d e f r s p q = one_writes (decimal_shown x) d e f r s p q

pub one-put : (x : Float) (u v w : Writer) → Puts u v (decimal_text16 x) → Puts u w (decimal_text16 x) → (v.out.now ≡ w.out.now) × (v.at ≡ w.at)
one-put x u v w p q = one_put u v w (decimal_text16 x) p q

pub shown_numbered : (x : Float) → Numbered (decimal_shown x)
unfolding decimal_shown
shown_numbered x = unless_numbered (finite x) 15 _ (omega arith) (omega arith)

pub length_numbered : (x : Float) → Numbered (passed_as length (decimal_shown x))
length_numbered x = passed_numbered length (decimal_shown x) (shown_numbered x)

pub decimal_numbered : (d : List ℕ) (x : Float) → Numbered (and_then (decimal_shown x) (written_length d))
decimal_numbered d x = writes_numbered (decimal_shown x) d (shown_numbered x)
