-- Lent bytes and lists as part of what is handed over: what is written stands in front, and the
-- rest is as it was.
use Rattle.std.specs.Prelude.{ℕ, List, length, Float}
use Rattle.outcome.specs.Outcome.{Outcome, given, passed_as}
use Rattle.number_text.specs.write.Writing.{written_length, written_bytes}
use Rattle.outcome.specs.Room.{room_after}
use Rattle.cash_flow.specs.declared.flow.CashFlow.{CashFlow}
use Rattle.note_flows.specs.flows.NoteFlows.{flow_day, amount_of}
use Rattle.fixed_income.specs.plain.Plain.{PlainFlow}

-- text in lent bytes: how many it takes, and the bytes with it in front; 16 where they are too few
unfoldable pub text_in : List ℕ → List ℕ → Outcome (ℕ × List ℕ)
text_in d xs = passed_as (λ k. (k, written_bytes d xs)) (written_length d xs)

-- flows in two lent lists: how many, their serial days and their amounts
abbrev pub flow_rooms : List ℕ → List Float → List CashFlow → ℕ × List ℕ × List Float
flow_rooms days amounts flows = (length flows, room_after flow_day (given flows) days, room_after amount_of (given flows) amounts)

-- flows in three: their currencies too
abbrev pub listed_in : List ℕ → List ℕ → List Float → List PlainFlow → ℕ × List ℕ × List ℕ × List Float
listed_in days currencies amounts flows =
    (length flows, room_after (λ f. f.day) (given flows) days, room_after (λ f. f.currency) (given flows) currencies, room_after (λ f. f.amount) (given flows) amounts)
