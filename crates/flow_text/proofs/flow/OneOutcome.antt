-- No second outcome meets a promise: each fixes the answer and the bytes. A refusal's number is
-- never 0.
use Rattle.std.specs.Prelude.{Result}
use Prim.Native.Nat.{ℕ}
use mathlib.Core.Path.{◌≡◌}
use mathlib.Core.List.{List}
use native.Mathlib.Omega.{arith}
use lib.ListN.{length}
use lib.Ieee.Scale.{finite}
use Rattle.outcome.specs.Outcome.{and_then, passed_as, Numbered}
use Rattle.outcome.specs.declared.Refusal.{Refusal}
use Rattle.outcome.proofs.Outcomes.{unless_numbered, passed_numbered}
use Rattle.number_text.specs.write.Writing.{written_length}
use Rattle.number_text.proofs.write.OneOutcome.{one_writes, one_takes}
use Rattle.number_text.proofs.write.Shown.{writes_numbered}
use Rattle.calendar.specs.dates.Dates.{is_date}
use Rattle.cash_flow.specs.currency.Amounts.{is_currency}
use Rattle.cash_flow.specs.declared.flow.CashFlow.{CashFlow}
use Rattle.flow_text.specs.flow.Texts.{flow_shown, FlowTakes, FlowWrites}

-- ---- one outcome to each question

pub one_flow_length : (f : CashFlow) (r s : Result ℕ Refusal) → FlowTakes f r → FlowTakes f s → r ≡ s
one_flow_length f r s p q = one_takes (flow_shown f) r s p q

pub one-flow : (w : CashFlow) (d e f : List ℕ) (r s : Result ℕ Refusal) → FlowWrites w d e r → FlowWrites w d f s → (r ≡ s) × (e ≡ f)
one-flow w d e f r s p q = one_writes (flow_shown w) d e f r s p q

-- ---- every refusal has its number

flow_shown_numbered : (f : CashFlow) → Numbered (flow_shown f)
unfolding flow_shown
flow_shown_numbered f =
    unless_numbered (finite f.amount) 15 _ (omega arith)
    (unless_numbered (is_currency f.currency) 17 _ (omega arith)
    (unless_numbered (is_date f.date) 1 _ (omega arith) (omega arith)))

pub flow_length_numbered : (f : CashFlow) → Numbered (passed_as length (flow_shown f))
flow_length_numbered f = passed_numbered length (flow_shown f) (flow_shown_numbered f)

pub flow_numbered : (f : CashFlow) (d : List ℕ) → Numbered (and_then (flow_shown f) (written_length d))
flow_numbered f d = writes_numbered (flow_shown f) d (flow_shown_numbered f)
