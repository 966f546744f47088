-- A rollout into lent records: the flows as they are, date, currency and amount.
use Rattle.outcome.specs.Refusals.{outcome_of}
use Rattle.outcome.specs.declared.Refusal.{Refusal}
use Rattle.std.specs.Prelude.{ℕ, ◌≡◌, List, length, Float, Result}
use Rattle.outcome.specs.Room.{counted, room_after}
use Rattle.cash_flow.specs.declared.flow.CashFlow.{CashFlow}
use Rattle.bond.specs.declared.note.Note.{Note}
use Rattle.rollout.specs.plain.Rollout.{fitted_in}

-- how many were written; and the room holds the flows, and then what it held
pub record RecordsPromise (n : Note) (position : Float) (table : List ℕ) (room : List CashFlow) (r : Result ℕ Refusal) (room' : List CashFlow) : Type 0 where
  pub answer : outcome_of r ≡ counted (fitted_in n position table (length room))
  pub contents : room' ≡ room_after (λ x. x) (fitted_in n position table (length room)) room
