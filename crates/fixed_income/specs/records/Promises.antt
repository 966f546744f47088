-- What the entry point promises: how many flows are written, and what its room holds.
-- An amount is copied as it is, whatever it is. The logic has one NaN, so of a NaN this says that a
-- NaN is written, and not which bits it has.
use Rattle.std.specs.Prelude.{ℕ, ◌≡◌, Bool, true, false, List, length, Result}
use Rattle.outcome.specs.Outcome.{Outcome, given, refused}
use Rattle.outcome.specs.Refusals.{outcome_of}
use Rattle.outcome.specs.declared.Refusal.{Refusal}
use Rattle.outcome.specs.Room.{fitting, counted, room_after}
use Rattle.calendar.specs.declared.dates.Date.{Date}
use Rattle.cash_flow.specs.declared.flow.CashFlow.{CashFlow}
use Rattle.fixed_income.specs.records.After.{flows_after}

-- refused 1, then 16 for fewer places than later flows
unfoldable pub records_written : List CashFlow → Date → ℕ → Outcome (List CashFlow)
records_written flows date places = fitting places (flows_after date flows)

-- how many were written; and the room holds the later records, and then what it held
pub record AfterPromise (flows : List CashFlow) (date : Date) (room : List CashFlow) (r : Result ℕ Refusal) (room' : List CashFlow) : Type 0 where
  pub answer : outcome_of r ≡ counted (records_written flows date (length room))
  pub contents : room' ≡ room_after (λ f. f) (records_written flows date (length room)) room

-- an outcome is a refusal
abbrev pub is_refused : {A : Type 0} → Outcome A → Bool
is_refused (given a) = false
is_refused (refused n) = true
