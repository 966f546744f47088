-- Laws of the answers: which of them the tests leave, and what they say of the bytes.
use Prim.Native.Nat.{ℕ, ◌+◌}
use mathlib.Core.Path.{◌≡◌, sym, ap}
use mathlib.Core.Bool.{true, false}
use mathlib.Core.List.{List}
use lib.ListN.{length}
use lib.Ieee.{Float}
use lib.Ieee.Scale.{finite}
use Rattle.outcome.specs.Outcome.{given, refused, passed_as}
use Rattle.outcome.proofs.Outcomes.{given_injective, unless-given}
use Rattle.cash_flow.specs.currency.Amounts.{is_currency}
use Rattle.cash_flow.specs.declared.currency.Currency.{Currency}
use Rattle.decimal.specs.float.Decimal.{decimal_shown}
use Rattle.decimal.proofs.float.Answers.{given-finite, refused_infinite}
use Rattle.flow_text.specs.amount.AmountTexts.{amount_text, amount_shown}
use Rattle.flow_text.proofs.amount.Lengths.{amount_long}

module _ (x : Float) (c : Currency) where
  pub amount-given : finite x ≡ true → is_currency c ≡ true → amount_shown x c ≡ given (amount_text x c)
  unfolding amount_shown
  amount-given f g = rw (f, g)

  pub amount_length_given : (k : ℕ) → given k ≡ passed_as length (decimal_shown x) → is_currency c ≡ true → given (k + 4) ≡ passed_as length (amount_shown x c)
  amount_length_given k e g =
      let p = given-finite x k e in
      rw (amount-given p.0 g) (ap given (rw p.1 (sym (amount_long x c))))

  pub amount_no_currency : (k : ℕ) → given k ≡ passed_as length (decimal_shown x) → is_currency c ≡ false → refused 17 ≡ passed_as length (amount_shown x c)
  unfolding amount_shown
  amount_no_currency k e g = rw ((given-finite x k e).0, g)

  pub amount_not_finite : (n : ℕ) → refused n ≡ passed_as length (decimal_shown x) → refused n ≡ passed_as length (amount_shown x c)
  unfolding amount_shown
  amount_not_finite n e = let p = refused_infinite x n e in rw (p.0, p.1)

  -- and back
  pub amount_was : (xs : List ℕ) → amount_shown x c ≡ given xs → (finite x ≡ true) × (is_currency c ≡ true) × (amount_text x c ≡ xs)
  unfolding amount_shown
  amount_was xs e =
      let p = unless-given (finite x) 15 _ xs e in
      let q = unless-given (is_currency c) 17 (given (amount_text x c)) xs p.1 in
      (p.0, q.0, given_injective q.1)
