-- What the inner functions hand each other, one flow at a time; no promise of an entry point rests
-- on this.
use Rattle.std.specs.Prelude.{ℕ, ◌-◌, ◌≤◌, ◌<◌, ◌≡◌, List, [], length, Option, Some, None, Float}
use Rattle.outcome.specs.Outcome.{Outcome, given, refused}
use Rattle.outcome.specs.Room.{counted, room_after}
use Rattle.calendar.specs.dates.Dates.{day_number}
use Rattle.cash_flow.specs.declared.flow.CashFlow.{CashFlow}
use Rattle.bond.specs.declared.note.Note.{Note}
use Rattle.note_flows.specs.declared.schedule.Due.{Due}
use Rattle.note_flows.specs.declared.schedule.Due.TheVariants.{First, After, Nothing}
use Rattle.note_flows.specs.flows.NoteFlows.{followed, later_flows, note_flows, flow_day}
use Rattle.note_flows.specs.declared.flows.NoteFlows.{NoteFlows}
use Rattle.note_flows.specs.declared.flows.Paid.{Paid}

-- what is left to be paid
abbrev pub flows_due : Note → Float → List ℕ → Due → Outcome (List CashFlow)
flows_due n position table First = note_flows n position table
flows_due n position table (After t) = later_flows 3652059 n position table t
flows_due n position table Nothing = given []

abbrev pub left : NoteFlows → Outcome (List CashFlow)
left s = flows_due s.note s.position s.holidays.days.now s.due

-- how many flows there can be
abbrev pub most : Due → ℕ
most First = 3652061
most (After t) = 3652060 - day_number t
most Nothing = 0

-- a turn: a flow, and what is left is that flow and what is left after it; the refusal that ends it;
-- or nothing is left
abbrev pub Turned : NoteFlows → NoteFlows → Outcome (Option Paid) → Type 0
Turned old new (given (Some p)) = (left old ≡ followed (given p.flow) (left new)) × (p.day ≡ flow_day p.flow) × (most new.due < most old.due)
Turned old new (given None) = left old ≡ given []
Turned old new (refused k) = left old ≡ refused k

-- where all flows are given and there is a place for each, the places hold a part of each
pub record Kept {A : Type 0} (part : CashFlow → A) (flows : Outcome (List CashFlow)) (old new : List A) : Type 0 where
  pub hold : (m : ℕ) → counted flows ≡ given m → m ≤ length old → new ≡ room_after part flows old
