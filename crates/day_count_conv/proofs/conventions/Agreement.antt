-- Outcomes that agree: one check or one step before both keeps them so, whatever closeness is asked
-- of the values.
use Prim.Native.Nat.{ℕ}
use mathlib.Core.Path.{◌≡◌, refl}
use mathlib.Core.Bool.{Bool, true, false}
use lib.Ieee.{Float}
use Rattle.outcome.specs.Outcome.{Outcome, given, refused, unless, and_then, pick}
use Rattle.day_fraction.specs.Exact.{Exact}
use Rattle.day_count_conv.specs.conventions.Conventions.{Agree}

module _ (Near : Float → Exact → Type 0) where
  pub unless_agree : (b : Bool) (n : ℕ) (o : Outcome Float) (p : Outcome Exact) → (b ≡ true → Agree Near o p) → Agree Near (unless b n o) (unless b n p)
  unless_agree true n o p h = h refl
  unless_agree false n o p h = refl

  pub pick_agree : (b : Bool) (o o' : Outcome Float) (p p' : Outcome Exact) → (b ≡ true → Agree Near o p) → (b ≡ false → Agree Near o' p') → Agree Near (pick b o o') (pick b p p')
  pick_agree true o o' p p' h k = h refl
  pick_agree false o o' p p' h k = k refl

  pub then_agree : {A : Type 0} (o : Outcome A) (f : A → Outcome Float) (g : A → Outcome Exact) → ((a : A) → o ≡ given a → Agree Near (f a) (g a)) → Agree Near (and_then o f) (and_then o g)
  then_agree (given a) f g h = h a refl
  then_agree (refused n) f g h = refl

  -- a value made of two that agree
  pub given_agree : (Far : Float → Exact → Type 0) (o : Outcome Float) (p : Outcome Exact) (f : Float → Float) (g : Exact → Exact) → Agree Near o p → ((x : Float) (q : Exact) → Near x q → Agree Far (given (f x)) (given (g q))) → Agree Far (and_then o (λ x. given (f x))) (and_then p (λ q. given (g q)))
  given_agree Far (given x) (given q) f g h k = k x q h.1
  given_agree Far (given x) (refused n) f g h k = h
  given_agree Far (refused n) (given q) f g h k = h
  given_agree Far (refused m) (refused n) f g h k = h

  -- a closeness that follows
  pub agree_still : (Far : Float → Exact → Type 0) (o : Outcome Float) (p : Outcome Exact) → Agree Near o p → ((x : Float) (q : Exact) → Near x q → Far x q) → Agree Far o p
  agree_still Far (given x) (given q) h k = (h.0, k x q h.1)
  agree_still Far (given x) (refused n) h k = h
  agree_still Far (refused n) (given q) h k = h
  agree_still Far (refused m) (refused n) h k = h
