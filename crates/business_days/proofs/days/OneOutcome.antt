-- No second outcome satisfies what an entry point promises: each answer is told by its outcome.
use Rattle.std.specs.Prelude.{Result}
use Prim.Native.Nat.{ℕ, zero, suc, ◌+◌, ◌-◌}
use mathlib.Core.Path.{◌≡◌, sym, ◌∙◌}
use mathlib.Core.List.{List}
use mathlib.Core.Bool.{Bool, false}
use native.Mathlib.Omega.{arith}
use Rattle.outcome.specs.Outcome.{Outcome, Numbered, given}
use Rattle.outcome.specs.Refusals.{outcome_of}
use Rattle.outcome.specs.declared.Refusal.{Refusal}
use Rattle.outcome.proofs.Outcomes.{Returns, returns, unless_numbered, then_numbered, elim_numbered}
use Rattle.outcome.proofs.Refusals.{same_result}
use Rattle.calendar.specs.dates.Dates.{is_day}
use Rattle.calendar.specs.declared.dates.Day.{Day}
use Rattle.business_days.specs.days.Answers.{judged, business_returned, TablePromise, BusinessPromise, NextPromise, PreviousPromise, LaterPromise, EarlierPromise}
use Rattle.business_days.specs.table.Table.{is_table}
use Rattle.business_days.specs.table.Business.{serial_day, is_business, first_of, next_from, last_of, prev_from, repeated}

-- a refusal returns its number and the zero
pub business_returned_lem : Returns outcome_of false business_returned
business_returned_lem = returns outcome_of false

module _ (t : List ℕ) where
  pub one_table : (r s : Bool) → TablePromise t r → TablePromise t s → r ≡ s
  one_table r s p q = p ∙ sym q

  module _ (d : Day) where
    pub one_business : (r s : Result Bool Refusal) → BusinessPromise d t r → BusinessPromise d t s → r ≡ s
    one_business r s p q = same_result r s (p ∙ sym q)

    module _ (r s : Result Day Refusal) where
      pub one-next : NextPromise d t r → NextPromise d t s → r ≡ s
      one-next p q = same_result r s (p ∙ sym q)

      pub one_previous : PreviousPromise d t r → PreviousPromise d t s → r ≡ s
      one_previous p q = same_result r s (p ∙ sym q)

      pub one_later : (k : ℕ) → LaterPromise d k t r → LaterPromise d k t s → r ≡ s
      one_later k p q = same_result r s (p ∙ sym q)

      pub one_earlier : (k : ℕ) → EarlierPromise d k t r → EarlierPromise d k t s → r ≡ s
      one_earlier k p q = same_result r s (p ∙ sym q)

-- every refusal has its number
first_numbered : (left : ℕ) (t : List ℕ) (n : ℕ) → Numbered (first_of left t n)
unfolding first_of
first_numbered zero t n = omega arith
first_numbered (suc left) t n = elim_numbered (is_business t n) (given (serial_day n)) (first_of left t (n + 1)) (omega arith) (first_numbered left t (n + 1))

pub next_from_numbered : (t : List ℕ) (n : ℕ) → Numbered (next_from t n)
unfolding next_from
next_from_numbered t n = first_numbered (3652059 - n) t (n + 1)

last_numbered : (t : List ℕ) (n : ℕ) → Numbered (last_of t n)
unfolding last_of
last_numbered t zero = omega arith
last_numbered t (suc n) = elim_numbered (is_business t (suc n)) (given (serial_day (suc n))) (last_of t n) (omega arith) (last_numbered t n)

pub prev_from_numbered : (t : List ℕ) (n : ℕ) → Numbered (prev_from t n)
unfolding prev_from
prev_from_numbered t n = last_numbered t (n - 1)

pub repeated_numbered : (step : ℕ → Outcome Day) (k n : ℕ) → ((m : ℕ) → Numbered (step m)) → Numbered (repeated step k n)
unfolding repeated
repeated_numbered step zero n h = omega arith
repeated_numbered step (suc k) n h = then_numbered (step n) (λ e. repeated step k e.0) (h n) (λ e. repeated_numbered step k e.0 h)

pub judged_numbered : {A : Type 0} (d : Day) (t : List ℕ) (rest : Outcome A) → Numbered rest → Numbered (judged d t rest)
judged_numbered d t rest h = unless_numbered (is_day d) 1 _ (omega arith) (unless_numbered (is_table t) 13 rest (omega arith) h)
