-- A float that two comparisons of the code put between two others is `Near` the fraction that it
-- means: it is no NaN and no infinity.
use mathlib.Core.Path.{◌≡◌, refl, sym, ◌∙◌, subst}
use Prim.Native.Nat.{ℕ, ◌*◌, ◌^◌, ◌≤◌, ◌<◌, zero-le}
use native.Mathlib.Nat.{le_refl, le_of_eq, le_of_lt, mul-le-mul_right, le_of_mul-le-mul_right}
use native.Mathlib.Omega.{arith}
use mathlib.Core.Bool.{Bool, true, false, ◌&&◌, ◌||◌}
use lib.IntN.{ℤ, pos, nat_abs}
use lib.Dec.{T, ltb, eqb, ltb→lt, eqb→eq, lit<}
use lib.Ieee.{Float, nan, inf, fin, binary64, up, down, le, below, level, of_int, fits}
use lib.Ieee.Fits.{down_pos}
use lib.Ieee.Scale.{finite}
use Rattle.rounding.specs.Close.{numerator, denominator}
use Rattle.rounding.proofs.Integers.{plus, minus, signed_parts}
use Rattle.rounding.proofs.Operations.{by_value}
use Rattle.rounding.proofs.Near.{Near, unit, unit-pos, near_size, near_int, near_weaken}
use Rattle.rounding.proofs.CloseLaws.{near_own}

one_of : (v w c : Bool) (a b : ℕ) → (T v → a < b) → (T w → a ≡ b) → T (v || (w && c)) → a ≤ b
one_of true w c a b l e t = le_of_lt (l tt)
one_of false true c a b l e t = le_of_eq (e tt)
one_of false false c a b l e t = absurd t

-- by `le`, a value of size a that is not negative is at most one of size b, and a negative one at
-- least one of size b
from_high : (t : Bool) (a b : ℕ) → T (below false a t b || level false a t b) → a ≤ b
from_high false a b h = one_of (ltb a b) (eqb a b) true a b (ltb→lt a b) (eqb→eq a b) h
from_high true a b h = one_of false (eqb a b) (eqb a 0) a b (λ t. absurd t) (eqb→eq a b) h

from_low : (t : Bool) (a b : ℕ) → T (below t b true a || level t b true a) → a ≤ b
from_low false a b h = one_of false (eqb b a) (eqb b 0) a b (λ t. absurd t) (λ t. sym (eqb→eq b a t)) h
from_low true a b h = one_of (ltb a b) (eqb b a) true a b (ltb→lt a b) (λ t. sym (eqb→eq b a t)) h

-- x beside an end y that is at most k in size
module _ {y : Float} {a b d k : ℕ} (Y : Near y a b d k 0) where
  beside : (P : Float → Type 0) → ((n : ℕ) (f : ℤ) → n * up f * unit ≡ Y.size * down f → P (fin Y.sign n f)) → P y
  beside P h = by_value P Y.sign Y.size unit h y Y.value

  scaled : (a b c d : ℕ) → 0 < d → b * unit ≡ Y.size * d → a * d ≤ b * c → a ≤ c * k
  scaled a b c d D e h =
      let l : Y.size ≤ k * unit = omega (arith, near_size Y) in
      let i : b * unit ≤ k * d * unit = omega (arith, mul-le-mul_right d l) in
      let j : a * d ≤ c * k * d = omega (arith, mul-le-mul_right c (le_of_mul-le-mul_right i unit-pos)) in
      le_of_mul-le-mul_right j D

  under : (m : ℕ) (e : ℤ) → T (le (fin false m e) y) → m * up e ≤ down e * k
  unfolding le
  under m e =
      beside (λ (y : Float). T (le (fin false m e) y) → m * up e ≤ down e * k)
      (λ n f p h. scaled (m * up e) (n * up f) (down e) (down f) (down_pos f) p (from_high Y.sign (m * up e * down f) (n * up f * down e) h))

  over : (m : ℕ) (e : ℤ) → T (le y (fin true m e)) → m * up e ≤ down e * k
  unfolding le
  over m e =
      beside (λ (y : Float). T (le y (fin true m e)) → m * up e ≤ down e * k)
      (λ n f p h. scaled (m * up e) (n * up f) (down e) (down f) (down_pos f) p (from_low Y.sign (m * up e * down f) (n * up f * down e) h))

  no_nan : T (le y nan) → ⊥
  unfolding le
  no_nan = beside (λ (y : Float). T (le y nan) → ⊥) (λ n f p h. h)

  no_inf : T (le (inf false) y) → ⊥
  unfolding le
  no_inf = beside (λ (y : Float). T (le (inf false) y) → ⊥) (λ n f p h. h)

  no_minus_inf : T (le y (inf true)) → ⊥
  unfolding le
  no_minus_inf = beside (λ (y : Float). T (le y (inf true)) → ⊥) (λ n f p h. h)

module _ {lo hi : Float} {a b d c g q k : ℕ} (L : Near lo a b d k 0) (H : Near hi c g q k 0) where
  bounded : (x : Float) → T (le lo x) → T (le x hi) → T (finite x) × (nat_abs (numerator x) ≤ denominator x * k)
  bounded nan l h = absurd (no_nan L l)
  bounded (inf true) l h = absurd (no_minus_inf L l)
  bounded (inf false) l h = absurd (no_inf H h)
  bounded (fin false m e) l h = (tt, under H m e h)
  bounded (fin true m e) l h = (tt, rw (signed_parts true (m * up e)).2 (over L m e l))

  -- a float between two others is exactly the fraction that it means
  pub near_between : {x : Float} → T (fits binary64 x) → le lo x ≡ true → le x hi ≡ true → Near x (plus (numerator x)) (minus (numerator x)) (denominator x) k 0
  near_between {x} f l h = let r = bounded x (subst T (sym l) tt) (subst T (sym h) tt) in near_own x k f r.0 r.1

-- from 0 to k, as the code compares: -0 is in
pub record In (x : Float) (k : ℕ) : Type 0 where
  pub low : le (of_int binary64 (pos 0)) x ≡ true
  pub high : le x (of_int binary64 (pos k)) ≡ true

-- such a float is exactly the fraction that it means, which is not negative
pub near_in : (x : Float) (k : ℕ) → k < 2 ^ 53 → T (fits binary64 x) → In x k → Near x (plus (numerator x)) 0 (denominator x) k 0
near_in x k K f i =
    let Z = near_int (pos 0) 0 (le_refl 0) (lit< tt) in
    subst (λ (n : ℕ). Near x (plus (numerator x)) n (denominator x) k 0) (none Z x (subst T (sym i.low) tt))
    (near_between (near_weaken Z k 0 zero-le (le_refl 0)) (near_int (pos k) k (omega arith) K) f i.low i.high)
  where
    -- a negative value that is at least 0 is 0
    none : Near (of_int binary64 (pos 0)) 0 0 1 0 0 → (x : Float) → T (le (of_int binary64 (pos 0)) x) → minus (numerator x) ≡ 0
    none Z nan l = refl
    none Z (inf s) l = refl
    none Z (fin false m e) l = refl
    none Z (fin true m e) l =
        let h : m * up e ≤ down e * 0 = over Z m e l in
        (signed_parts true (m * up e)).1 ∙ omega arith
