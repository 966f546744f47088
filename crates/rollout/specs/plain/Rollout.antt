-- A rollout: the flows of a note that passes its checks (`cash_flows` of `note_flows`), and the room
-- for them.
use Rattle.std.specs.Prelude.{ℕ, min, ◌≡◌, List, length, Float, Result}
use Rattle.outcome.specs.Outcome.{Outcome}
use Rattle.outcome.specs.Refusals.{outcome_of}
use Rattle.outcome.specs.declared.Refusal.{Refusal}
use Rattle.outcome.specs.Room.{fitting, counted, room_after}
use Rattle.cash_flow.specs.declared.flow.CashFlow.{CashFlow}
use Rattle.bond.specs.declared.note.Note.{Note}
unfoldable pub use Rattle.note_flows.specs.flows.NoteFlows.{cash_flows}
use Rattle.note_flows.specs.flows.NoteFlows.{flow_day, amount_of}

-- the note's flows, and last 16: fewer places than flows
abbrev pub fitted_in : Note → Float → List ℕ → ℕ → Outcome (List CashFlow)
fitted_in n position table places = fitting places (cash_flows n position table)

-- where days and amounts stand in two lists, in the places of the shorter one
abbrev pub fitted : Note → Float → List ℕ → List ℕ → List Float → Outcome (List CashFlow)
fitted n position table days amounts = fitted_in n position table (min (length days) (length amounts))

-- what the entry point promises of its answer r and of both lists afterwards
pub record RolloutPromise (n : Note) (position : Float) (table days : List ℕ) (amounts : List Float) (r : Result ℕ Refusal) (days' : List ℕ) (amounts' : List Float) : Type 0 where
  pub answer : outcome_of r ≡ counted (fitted n position table days amounts)
  pub days-are : days' ≡ room_after flow_day (fitted n position table days amounts) days
  pub amounts_are : amounts' ≡ room_after amount_of (fitted n position table days amounts) amounts
