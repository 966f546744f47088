-- Flows as lines.
use Rattle.std.specs.Prelude.{ℕ, List, [], ◌∷◌, ◌++◌}
use Rattle.outcome.specs.Outcome.{Outcome, given, refused, and_then}
use Rattle.cash_flow.specs.declared.flow.CashFlow.{CashFlow}
use Rattle.flow_text.specs.flow.Texts.{flow_shown}
use Rattle.flow_text.specs.refusal.RefusalTexts.{refused_text}

-- a flow and a line feed
unfoldable pub line_shown : CashFlow → Outcome (List ℕ)
line_shown f = and_then (flow_shown f) (λ t. given (t ++ (10 ∷ [])))

-- flows without a header, a line each
unfoldable pub lines_of : List CashFlow → Outcome (List ℕ)
lines_of [] = given []
lines_of (f ∷ fs) = and_then (line_shown f) (λ t. and_then (lines_of fs) (λ rest. given (t ++ rest)))

-- the lines, or the refusal
abbrev pub answer_text : Outcome (List ℕ) → List ℕ
answer_text (given t) = t
answer_text (refused n) = refused_text n
