-- No second outcome satisfies the entry point's promise: neither another answer, nor other room. A
-- refusal's number is never 0: `rollout_numbered` of `rollout`.
use Rattle.std.specs.Prelude.{Result}
use Prim.Native.Nat.{ℕ}
use mathlib.Core.Path.{◌≡◌, sym, ◌∙◌}
use mathlib.Core.List.{List}
use lib.Ieee.{Float}
use Rattle.cash_flow.specs.declared.flow.CashFlow.{CashFlow}
use Rattle.outcome.specs.declared.Refusal.{Refusal}
use Rattle.outcome.proofs.Refusals.{same_result}
use Rattle.bond.specs.declared.note.Note.{Note}
use Rattle.rollout.specs.records.Records.{RecordsPromise}

-- the answer and the room
pub one_rollout : (n : Note) (position : Float) (table : List ℕ) (room : List CashFlow) (r s : Result ℕ Refusal) (a b : List CashFlow) → RecordsPromise n position table room r a → RecordsPromise n position table room s b → (r ≡ s) × (a ≡ b)
one_rollout n position table room r s a b p q = (same_result r s (p.answer ∙ sym q.answer), p.contents ∙ sym q.contents)
