-- The adjusted days of 30/360 and of 30E/360, and what both have in common.
use mathlib.Core.Path.{◌≡◌, refl}
use Prim.Native.Nat.{ℕ, ◌+◌, ◌≤◌, ◌<◌, min}
use mathlib.Core.Bool.{Bool, true, false, ◌||◌}
use native.Mathlib.Omega.{arith}
use lib.Dec.{eqb}
use borrow.Author.Tests.{eqb-true, eqb-false}
use Rattle.outcome.specs.Outcome.{pick}
use Rattle.day_fraction.specs.Fractions.{cut, end_day}

-- two days of a month, s and e, adjusted to a and b
pub record Adjusted (s e a b : ℕ) : Type 0 where
  pub start_to : a ≤ 30
  pub end_from : 1 ≤ b
  pub end_to : b ≤ 31
  pub apart : (a ≤ b + 30) × (b ≤ a + 30)
  pub kept : s ≤ e → a ≤ b
  pub joined : s < e → a ≡ b → (s ≡ 30) × (e ≡ 31)
  pub same : s ≡ 30 → e ≡ 31 → a ≡ b

-- of the days of a month, 31 alone is above 30
pub cut_is : (d : ℕ) → d ≤ 31 → cut d ≡ min d 30
cut_is d h = by (eqb d 31) (eqb-true d 31) (eqb-false d 31)
  where
    by : (b : Bool) → (b ≡ true → d ≡ 31) → (b ≡ false → d ≡ 31 → ⊥) → pick b 30 d ≡ min d 30
    by true t f = let e = t refl in omega arith
    by false t f = let n = f refl in omega arith

module _ (s e : ℕ) (h : 1 ≤ s) (k : s ≤ 31) (l : 1 ≤ e) (m : e ≤ 31) where
  -- the end is cut at 30, or at a later day where the start is not the 30th
  adjusted : (a b c : ℕ) → a ≡ min s 30 → b ≡ min e c → 30 ≤ c → (s ≡ 30 → c ≡ 30) → Adjusted s e a b
  adjusted a b c p q r t =
      record {
        start_to = omega arith;
        end_from = omega arith;
        end_to = omega arith;
        apart = omega arith;
        kept = λ i. omega arith;
        joined = λ i j. omega arith;
        same = λ i j. omega (arith, t i);
      }

  pub adjusted_30_e_lem : Adjusted s e (cut s) (cut e)
  adjusted_30_e_lem = adjusted (cut s) (cut e) 30 (cut_is s k) (cut_is e m) (omega arith) (λ i. refl)

  pub adjusted_30 : Adjusted s e (cut s) (end_day s e)
  adjusted_30 = by (eqb s 30) (eqb s 31) (eqb-false s 30) (eqb-false s 31)
    where
      by : (b c : Bool) → (b ≡ false → s ≡ 30 → ⊥) → (c ≡ false → s ≡ 31 → ⊥) → Adjusted s e (cut s) (pick (b || c) (cut e) e)
      by true c p q = adjusted_30_e_lem
      by false true p q = adjusted_30_e_lem
      by false false p q = adjusted (cut s) e 31 (cut_is s k) (omega arith) (omega arith) (λ i. absurd (p refl i))

-- one day is adjusted to one day
pub end_at_once : (d : ℕ) → end_day d d ≡ cut d
end_at_once d = by (eqb d 30) (eqb d 31)
  where
    by : (b c : Bool) → pick (b || c) (pick c 30 d) d ≡ pick c 30 d
    by true c = refl
    by false true = refl
    by false false = refl
