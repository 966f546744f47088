-- Laws of a flow's answers: its amount's outcome, and then the date's.
use Prim.Native.Nat.{ℕ, ◌+◌}
use mathlib.Core.Path.{◌≡◌, sym, ap}
use mathlib.Core.Bool.{true, false}
use mathlib.Core.List.{List}
use lib.ListN.{length}
use lib.Ieee.Scale.{finite}
use Rattle.outcome.specs.Outcome.{given, refused, unless, and_then, passed_as}
use Rattle.outcome.proofs.Outcomes.{given_injective, unless-given, unless_then, passed_given, passed_refused}
use Rattle.calendar.specs.dates.Dates.{is_date}
use Rattle.cash_flow.specs.currency.Amounts.{is_currency}
use Rattle.cash_flow.specs.declared.flow.CashFlow.{CashFlow}
use Rattle.flow_text.specs.amount.AmountTexts.{amount_shown}
use Rattle.flow_text.proofs.amount.Answers.{amount_was}
use Rattle.flow_text.specs.flow.Texts.{flow_text, flow_shown}
use Rattle.flow_text.proofs.flow.Lengths.{flow_long}

module _ (f : CashFlow) where
  flow_then : flow_shown f ≡ and_then (amount_shown f.amount f.currency) (λ xs. unless (is_date f.date) 1 (given (flow_text f)))
  unfolding flow_shown amount_shown
  flow_then = rw (unless_then, unless_then)

  pub flow-given : (k : ℕ) → given k ≡ passed_as length (amount_shown f.amount f.currency) → is_date f.date ≡ true → given (11 + k) ≡ passed_as length (flow_shown f)
  flow-given k e d =
      let p = passed_given length (amount_shown f.amount f.currency) k (sym e) in
      let t = amount_was f.amount f.currency p.0 p.1 in
      rw (flow_then, p.1, d) (ap given (rw (← p.2, ← t.2) (sym (flow_long f d))))

  pub flow_no_date : (k : ℕ) → given k ≡ passed_as length (amount_shown f.amount f.currency) → is_date f.date ≡ false → refused 1 ≡ passed_as length (flow_shown f)
  flow_no_date k e d =
      let p = passed_given length (amount_shown f.amount f.currency) k (sym e) in
      rw (flow_then, p.1, d)

  pub flow-refused : (n : ℕ) → refused n ≡ passed_as length (amount_shown f.amount f.currency) → refused n ≡ passed_as length (flow_shown f)
  flow-refused n e = rw (flow_then, passed_refused length (amount_shown f.amount f.currency) n (sym e))

  pub flow_was : (xs : List ℕ) → flow_shown f ≡ given xs → (finite f.amount ≡ true) × (is_date f.date ≡ true) × (flow_text f ≡ xs)
  unfolding flow_shown
  flow_was xs e =
      let p = unless-given (finite f.amount) 15 _ xs e in
      let q = unless-given (is_currency f.currency) 17 _ xs p.1 in
      let r = unless-given (is_date f.date) 1 (given (flow_text f)) xs q.1 in
      (p.0, r.0, given_injective r.1)
