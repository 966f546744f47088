-- What the inner functions hand each other; no promise of an entry point rests on this.
use Rattle.std.specs.Prelude.{ℕ, ◌+◌, ◌≤◌, List, [], ◌∷◌, length, Float, Result}
use Rattle.outcome.specs.Outcome.{Outcome, given, refused, value}
use Rattle.outcome.specs.Refusals.{outcome_of}
use Rattle.outcome.specs.declared.Refusal.{Refusal}
use Rattle.number_text.specs.write.Writing.{Written}
use Rattle.cash_flow.specs.declared.currency.Currency.{Currency}
use Rattle.cash_flow.specs.flow.Flows.{date_on}
use Rattle.cash_flow.specs.declared.flow.CashFlow.{CashFlow}
use Rattle.note_listing.specs.lines.Lines.{answer_text}

-- a flow from its serial day and its amount
abbrev pub flow_on : Currency → ℕ → Float → CashFlow
flow_on c d x = record { date = date_on d; currency = c; amount = x }

-- flows from two lists
abbrev pub flows_shown : Currency → List ℕ → List Float → List CashFlow
flows_shown c [] xs = []
flows_shown c (d ∷ ds) [] = []
flows_shown c (d ∷ ds) (x ∷ xs) = flow_on c d x ∷ flows_shown c ds xs

-- text that is given
abbrev pub text_of : Outcome (List ℕ) → List ℕ
text_of o = value [] o

-- text that is given and has room from a place on
abbrev pub LineFits : Outcome (List ℕ) → ℕ → ℕ → Type 0
LineFits (given t) places at = at + length t ≤ places
LineFits (refused n) places at = ⊥

-- the lines, or the refusal, written at the start of lent bytes, and not longer than 2,000 lines of
-- 331 bytes
abbrev pub LinesWritten : Outcome (List ℕ) → List ℕ → List ℕ → Result ℕ Refusal → Type 0
LinesWritten o d e r = (Written d e (answer_text o) (outcome_of r)) × (length (answer_text o) ≤ 662000)
