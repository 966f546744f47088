-- Cash flows as text, and what is refused.
use Rattle.std.specs.Prelude.{ℕ, List, ◌∷◌, ◌++◌, Result}
use Rattle.outcome.specs.declared.Refusal.{Refusal}
use Rattle.std.specs.Float.Ieee.Scale.{finite}
use Rattle.outcome.specs.Outcome.{Outcome, given, unless}
use Rattle.number_text.specs.write.Writing.{Writes, Takes}
use Rattle.calendar.specs.dates.Dates.{is_date}
use Rattle.flow_text.specs.date.DateTexts.{date_text}
use Rattle.cash_flow.specs.currency.Amounts.{is_currency}
use Rattle.cash_flow.specs.declared.flow.CashFlow.{CashFlow}
use Rattle.flow_text.specs.amount.AmountTexts.{amount_text}

-- a flow: its date, a blank, and its amount
unfoldable pub flow_text : CashFlow → List ℕ
flow_text f = date_text f.date ++ (32 ∷ amount_text f.amount f.currency)

-- 15, 17, 1, in a note's order
unfoldable pub flow_shown : CashFlow → Outcome (List ℕ)
flow_shown f = unless (finite f.amount) 15 (unless (is_currency f.currency) 17 (unless (is_date f.date) 1 (given (flow_text f))))

-- what the entry points promise: the length of a flow
abbrev pub FlowTakes : CashFlow → Result ℕ Refusal → Type 0
FlowTakes f r = Takes (flow_shown f) r

-- and its text
abbrev pub FlowWrites : CashFlow → List ℕ → List ℕ → Result ℕ Refusal → Type 0
FlowWrites f d e r = Writes (flow_shown f) d e r
