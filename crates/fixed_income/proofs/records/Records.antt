-- The second pass over records: what each turn knows of the room.
use Prim.Native.Nat.{ℕ, ◌≤◌, ◌<◌}
use mathlib.Core.Path.{◌≡◌, sym, ap, ◌∙◌}
use mathlib.Core.Bool.{true}
use mathlib.Core.List.{List, ◌∷◌}
use native.Mathlib.Omega.{arith}
use Prim.Native.Nat.{◌+◌}
use lib.ListN.{length, drop}
use lib.Dec.{T}
use lib.Ieee.Bits.{is_true}
use Rattle.std.specs.Prelude.{Result}
use Rattle.outcome.specs.Refusals.{outcome_of}
use Rattle.outcome.specs.declared.Refusal.{Refusal}
use Rattle.outcome.specs.Outcome.{given}
use Rattle.outcome.specs.Lists.{those}
use Rattle.outcome.specs.Room.{counted, room_after}
use Rattle.outcome.proofs.Lists.{Passed, passed_fits}
use Rattle.calendar.specs.dates.Dates.{is_date}
use Rattle.calendar.specs.declared.dates.Date.{Date}
use Rattle.cash_flow.specs.declared.flow.CashFlow.{CashFlow}
use Rattle.fixed_income.specs.records.After.{has_date, is_later, flows_after}
use Rattle.fixed_income.specs.records.Promises.{is_refused, records_written, AfterPromise}
use Rattle.fixed_income.proofs.records.Later.{kept, unrefused, Column, column_all}

-- where the first pass gave a count, all the later records have room
module _ (date : Date) (ys old : List CashFlow) (n : ℕ) (counts : given n ≡ counted (records_written ys date (length old))) where
  told : (length (those (is_later date) ys) ≤ length old) × (records_written ys date (length old) ≡ given (those (is_later date) ys))
  unfolding records_written flows_after
  told = unrefused (is_date date) has_date (is_later date) ys (length old) (ap is_refused (sym counts))

  module _ (i k : ℕ) (new : List CashFlow) (passed : Passed (is_later date) ys i k) (column : Column (λ f. f) (is_later date) ys old i k new) where
    -- a later one has its place
    pub inside : (f : CashFlow) → i < length ys → drop i ys ≡ f ∷ drop (i + 1) ys → is_later date f ≡ true → k < length new
    inside f l at h = omega (arith, told.0, column.same_length, passed_fits (is_later date) ys i k f l at passed h)

    pub written : length ys ≤ i → new ≡ room_after (λ f. f) (records_written ys date (length old)) old
    written over = rw told.1 (column_all (λ f. f) (is_later date) ys old i k new over passed column)

module _ (date : Date) (ys old : List CashFlow) (r : Result ℕ Refusal) (answers : outcome_of r ≡ counted (records_written ys date (length old))) where
  -- a refusal keeps the room
  pub copy_refused : T (is_refused (outcome_of r)) → AfterPromise ys date old r old
  copy_refused h = record { answer = answers; contents = sym (kept (λ f. f) (records_written ys date (length old)) old (ap is_refused (sym answers) ∙ is_true _ h)) }
