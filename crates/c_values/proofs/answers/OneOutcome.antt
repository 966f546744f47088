-- What is handed over is fixed by the outcome, and fixes it: one number and one contents for each
-- outcome, and one outcome for each number and contents.
use Prim.Native.Nat.{ℕ}
use mathlib.Core.Path.{◌≡◌, sym, ◌∙◌, ap}
use native.Mathlib.Omega.{arith}
use Rattle.outcome.specs.Outcome.{Outcome, given, refused, Numbered}
use Rattle.outcome.proofs.Outcomes.{one_value, fixed_by_parts}
use Rattle.c_values.specs.answers.HandOver.{HandsOver, ReturnsNumber}

-- no second number, and no second contents, of all that is lent
pub one_handed : {A : Type 0} (o : Outcome A) (r s : ℕ) (old a b : A) → HandsOver o r old a → HandsOver o s old b → (r ≡ s) × (a ≡ b)
one_handed o r s old a b p q = (one_value r s p.0 q.0, one_value a b p.1 q.1)

-- of a check there is the number alone
pub one_number : {A : Type 0} (o : Outcome A) (r s : ℕ) → ReturnsNumber o r → ReturnsNumber o s → r ≡ s
one_number o r s p q = one_value r s p q

-- two outcomes that hand the same over are one
pub told_apart : {A : Type 0} (o p : Outcome A) (r : ℕ) (old new : A) → Numbered o → Numbered p → HandsOver o r old new → HandsOver p r old new → o ≡ p
told_apart o p r old new h k e f = fixed_by_parts old o p h k (sym e.0 ∙ f.0) (sym e.1 ∙ f.1)

-- 0 says that there is an answer, and that what is lent holds it
pub answered : {A : Type 0} (o : Outcome A) (old new : A) → Numbered o → HandsOver o 0 old new → o ≡ given new
answered (given a) old new h e = ap given (sym e.1)
answered (refused k) old new h e = absurd (omega (arith, e.0))

-- any other number says that what is lent is as it was
pub kept : {A : Type 0} (o : Outcome A) (r : ℕ) (old new : A) → HandsOver o r old new → (r ≡ 0 → ⊥) → new ≡ old
kept (given a) r old new e n = absurd (n e.0)
kept (refused k) r old new e n = e.1
