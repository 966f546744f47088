-- No second outcome meets a promise: each fixes the answer and the bytes. A refusal's number is
-- never 0.
use Rattle.std.specs.Prelude.{Result}
use Prim.Native.Nat.{ℕ}
use mathlib.Core.Path.{◌≡◌}
use mathlib.Core.List.{List}
use native.Mathlib.Omega.{arith}
use lib.ListN.{length}
use lib.Ieee.{Float}
use lib.Ieee.Scale.{finite}
use Rattle.outcome.specs.Outcome.{and_then, passed_as, Numbered}
use Rattle.outcome.specs.declared.Refusal.{Refusal}
use Rattle.outcome.proofs.Outcomes.{unless_numbered, passed_numbered}
use Rattle.number_text.specs.write.Writing.{written_length}
use Rattle.number_text.proofs.write.OneOutcome.{one_writes, one_takes}
use Rattle.number_text.proofs.write.Shown.{writes_numbered}
use Rattle.cash_flow.specs.currency.Amounts.{is_currency}
use Rattle.cash_flow.specs.declared.currency.Currency.{Currency}
use Rattle.flow_text.specs.amount.AmountTexts.{amount_shown, AmountTakes, AmountWrites}

-- ---- one outcome to each question

pub one_amount_length : (x : Float) (c : Currency) (r s : Result ℕ Refusal) → AmountTakes x c r → AmountTakes x c s → r ≡ s
one_amount_length x c r s p q = one_takes (amount_shown x c) r s p q

pub one-amount : (x : Float) (c : Currency) (d e f : List ℕ) (r s : Result ℕ Refusal) → AmountWrites x c d e r → AmountWrites x c d f s → (r ≡ s) × (e ≡ f)
one-amount x c d e f r s p q = one_writes (amount_shown x c) d e f r s p q

-- ---- every refusal has its number

amount_shown_numbered : (x : Float) (c : Currency) → Numbered (amount_shown x c)
unfolding amount_shown
amount_shown_numbered x c = unless_numbered (finite x) 15 _ (omega arith) (unless_numbered (is_currency c) 17 _ (omega arith) (omega arith))

pub amount_length_numbered : (x : Float) (c : Currency) → Numbered (passed_as length (amount_shown x c))
amount_length_numbered x c = passed_numbered length (amount_shown x c) (amount_shown_numbered x c)

pub amount_numbered : (x : Float) (c : Currency) (d : List ℕ) → Numbered (and_then (amount_shown x c) (written_length d))
amount_numbered x c d = writes_numbered (amount_shown x c) d (amount_shown_numbered x c)
