-- A count and the places for it: what fits is all there is, and what does not is 16. Over any kind
-- of element.
use Prim.Native.Nat.{ℕ, ◌≤◌, ◌<◌}
use mathlib.Core.Path.{◌≡◌, refl, sym, subst}
use mathlib.Core.List.{List}
use native.Mathlib.Omega.{arith}
use lib.Dec.{leb}
use lib.ListN.{length}
use borrow.Author.Tests.{le-leb, lt-leb, leb-true}
use Rattle.outcome.specs.Outcome.{Outcome, given, refused, Numbered}
use Rattle.outcome.proofs.Outcomes.{given_injective, given_not_refused, unless-given, unless_numbered, passed_refused}
use Rattle.outcome.specs.Room.{fitting, counted}

module _ {A : Type 0} where
  -- the three ways that a count and the places for it can meet
  pub fits : (o : Outcome (List A)) (m places : ℕ) → counted o ≡ given m → m ≤ places → fitting places o ≡ o
  fits (given l) m places c h = rw (le-leb (length l) places (omega (arith, given_injective c)))
  fits (refused j) m places c h = refl

  pub short : (o : Outcome (List A)) (m places : ℕ) → counted o ≡ given m → places < m → fitting places o ≡ refused 16
  short (given l) m places c h = rw (lt-leb (length l) places (omega (arith, given_injective c)))
  short (refused j) m places c h = absurd (given_not_refused (sym c))

  pub stopped : (o : Outcome (List A)) (j places : ℕ) → counted o ≡ refused j → fitting places o ≡ refused j
  stopped o j places c = rw (passed_refused length o j c)

  -- what was given was all there is, and it fits
  pub fitting-given : (places : ℕ) (o : Outcome (List A)) (l : List A) → fitting places o ≡ given l → (o ≡ given l) × (length l ≤ places)
  fitting-given places (given m) l e =
      let u = unless-given (leb (length m) places) 16 (given m) l e in
      (u.1, subst (λ (x : List A). length x ≤ places) (given_injective u.1) (leb-true (length m) places u.0))
  fitting-given places (refused k) l e = absurd (given_not_refused (sym e))

  -- a refusal keeps a number that is not 0
  pub fitting_numbered : (places : ℕ) (o : Outcome (List A)) → Numbered o → Numbered (fitting places o)
  fitting_numbered places (given l) h = unless_numbered (leb (length l) places) 16 (given l) (omega arith) h
  fitting_numbered places (refused n) h = h
