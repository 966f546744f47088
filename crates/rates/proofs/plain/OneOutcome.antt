-- No second answer satisfies the promise; and a refusal's number is never 0.
use Rattle.std.specs.Prelude.{Result}
use Prim.Native.Nat.{ℕ}
use mathlib.Core.Path.{◌≡◌}
use mathlib.Core.List.{List}
use lib.Ieee.{Float}
use Rattle.outcome.specs.Outcome.{Numbered}
use Rattle.outcome.specs.declared.Refusal.{Refusal}
use Rattle.calendar.specs.declared.dates.Date.{Date}
use Rattle.rates.specs.simple.Rates.{discounted_stream}
use Rattle.rates.specs.declared.simple.FlatRate.{FlatRate}
use Rattle.rates.proofs.simple.OneOutcome.{one_stream, stream_numbered}
use Rattle.rates.specs.plain.Plain.{flows_of, DiscountPlainPromise}

module _ (rate : FlatRate) (today : Date) (days currencies : List ℕ) (amounts : List Float) where
  pub one_listed : (r s : Result Float Refusal) → DiscountPlainPromise rate today days currencies amounts r → DiscountPlainPromise rate today days currencies amounts s → r ≡ s
  one_listed r s p q = one_stream rate today (flows_of days currencies amounts) r s p q

  -- every refusal has its number
  pub listed_numbered : Numbered (discounted_stream rate today (flows_of days currencies amounts))
  listed_numbered = stream_numbered rate today (flows_of days currencies amounts)
