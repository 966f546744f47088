-- No second outcome meets the promise: it fixes the answer and the final contents of the three
-- lists. And a refusal's number is never 0.
use Rattle.std.specs.Prelude.{Result}
use Prim.Native.Nat.{ℕ}
use mathlib.Core.Path.{◌≡◌, sym, ◌∙◌}
use mathlib.Core.List.{List}
use lib.Ieee.{Float}
use Rattle.outcome.specs.Outcome.{Numbered}
use Rattle.outcome.specs.declared.Refusal.{Refusal}
use Rattle.outcome.proofs.Refusals.{same_result}
use Rattle.calendar.specs.dates.Dates.{is_day}
use Rattle.calendar.specs.declared.dates.Day.{Day}
use Rattle.fixed_income.proofs.records.OneOutcome.{numbered}
use Rattle.fixed_income.specs.plain.Plain.{PlainFlow, is_day_number, is_later_day, listed_after, listed_written, FlowsAfterPlainPromise}

-- the answer and the three lists
pub one_listed : (day : Day) (flows : List PlainFlow) (ds cs : List ℕ) (xs : List Float) (r s : Result ℕ Refusal) (d₁ c₁ d₂ c₂ : List ℕ) (x₁ x₂ : List Float)
    → FlowsAfterPlainPromise day flows ds cs xs r d₁ c₁ x₁ → FlowsAfterPlainPromise day flows ds cs xs s d₂ c₂ x₂ → (r ≡ s) × (d₁ ≡ d₂) × (c₁ ≡ c₂) × (x₁ ≡ x₂)
one_listed day flows ds cs xs r s d₁ c₁ d₂ c₂ x₁ x₂ p q = (
  same_result r s (p.answer ∙ sym q.answer),
  p.contents.days-are ∙ sym q.contents.days-are,
  p.contents.currencies_are ∙ sym q.contents.currencies_are,
  p.contents.amounts_are ∙ sym q.contents.amounts_are,
)

pub listed_numbered : (day : Day) (flows : List PlainFlow) (places : ℕ) → Numbered (listed_written day flows places)
unfolding listed_written listed_after
listed_numbered day flows places = numbered (is_day day) (λ f. is_day_number f.day) (λ f. is_later_day day f.day) flows places
