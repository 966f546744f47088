-- No second outcome meets a promise: each fixes the answer and the final contents of the room. And
-- a refusal's number is never 0.
use Rattle.std.specs.Prelude.{Result}
use Prim.Native.Nat.{ℕ}
use mathlib.Core.Path.{◌≡◌, sym, ◌∙◌}
use mathlib.Core.Bool.{Bool}
use mathlib.Core.List.{List}
use native.Mathlib.Omega.{arith}
use Rattle.outcome.specs.Lists.{those, all_of}
use Rattle.outcome.specs.declared.Refusal.{Refusal}
use Rattle.outcome.specs.Outcome.{given, Numbered, both}
use Rattle.outcome.proofs.Outcomes.{unless_numbered}
use Rattle.outcome.proofs.Refusals.{same_result}
use Rattle.outcome.specs.Room.{fitting}
use Rattle.outcome.proofs.Fitting.{fitting_numbered}
use Rattle.calendar.specs.dates.Dates.{is_date}
use Rattle.calendar.specs.declared.dates.Date.{Date}
use Rattle.cash_flow.specs.declared.flow.CashFlow.{CashFlow}
use Rattle.fixed_income.specs.records.After.{after, has_date, is_later, flows_after}
use Rattle.fixed_income.specs.records.Promises.{records_written, AfterPromise}

-- the answer and the room
pub one-after : (flows : List CashFlow) (date : Date) (room e f : List CashFlow) (r s : Result ℕ Refusal) → AfterPromise flows date room r e → AfterPromise flows date room s f → (r ≡ s) × (e ≡ f)
one-after flows date room e f r s p q = (same_result r s (p.answer ∙ sym q.answer), p.contents ∙ sym q.contents)

pub numbered : {A : Type 0} (ok : Bool) (dated later : A → Bool) (xs : List A) (places : ℕ) → Numbered (fitting places (after ok dated later xs))
numbered ok dated later xs places =
    fitting_numbered places (after ok dated later xs) (unless_numbered (both ok (all_of dated xs)) 1 (given (those later xs)) (omega arith) (omega arith))

pub after_numbered : (flows : List CashFlow) (date : Date) (places : ℕ) → Numbered (records_written flows date places)
unfolding records_written flows_after
after_numbered flows date places = numbered (is_date date) has_date (is_later date) flows places
