-- A count that goes on over the elements that an outcome still has; over any kind of element.
use Prim.Native.Nat.{ℕ, ◌+◌}
use mathlib.Core.Path.{◌≡◌, refl, ap}
use mathlib.Core.List.{List, [], ◌++◌}
use native.Mathlib.Omega.{arith}
use lib.ListN.{length, length-append}
use Rattle.outcome.specs.Outcome.{Outcome, given, refused, passed_as}

-- k, and as many as are given
abbrev pub tally : {A : Type 0} → ℕ → Outcome (List A) → Outcome ℕ
tally k o = passed_as (λ l. k + length l) o

module _ {A : Type 0} where
  pub tally_none : (o : Outcome (List A)) → tally 0 o ≡ passed_as length o
  tally_none (given l) = ap given (omega arith)
  tally_none (refused n) = refl

  pub tally_more : (k : ℕ) (front : List A) (o : Outcome (List A)) → tally k (passed_as (λ l. front ++ l) o) ≡ tally (k + length front) o
  tally_more k front (given l) = ap given (omega (arith, length-append front l))
  tally_more k front (refused n) = refl

  pub tally_end : (k : ℕ) (o : Outcome (List A)) → o ≡ given [] → tally k o ≡ given k
  tally_end k o e = rw e (ap given (omega arith))
