-- `Near x a b d k e`: the `f64` x is finite, the fraction (a - b) / d is at most k in size, and x
-- is within e / 2 ^ 100 of it.
-- All of it is over naturals: a signed number is a difference of two that is never taken. A chain
-- of rules, one for each operation, bounds the error of a
-- computation: `near_int`, `near_add`, `near_sub`, `near_neg` here, `near_mul` in Product,
-- `near_quot` and `near_div` in Quotient, `near_own` and
-- `near_close` in CloseLaws, `near_between` in Range. In each, t is chosen so that the exact result
-- is below 2 ^ t, and its rounding costs 2 ^ (46 + t).
use mathlib.Core.Path.{◌≡◌, refl, sym, ap, ◌∙◌, subst}
use Prim.Native.Nat.{ℕ, suc, ◌+◌, ◌-◌, ◌*◌, ◌^◌, ◌≤◌, ◌<◌}
use native.Mathlib.Nat.{le_refl, le_trans, lt_of_le_of_lt, mul-one, mul_comm, mul-le-mul_left, mul-le-mul_right, mul-lt-mul_of_pos_right, le_of_mul-le-mul_left, mul-pos}
use native.Mathlib.Omega.{arith}
use mathlib.Core.Bool.{Bool, true, false, not}
use lib.IntN.{ℤ, pos, negsuc}
use lib.Pow.{pow-add, pow_pos}
use lib.Ieee.{Float, binary64, prec, emax, low, round, neg, add, sub, of_int}
use lib.Ieee.Exact.{HasValue}
use Rattle.rounding.proofs.Algebra.{ring, Apart, plus_of, minus_of}
use Rattle.rounding.proofs.Integers.{plus, minus, Diff}
use Rattle.rounding.proofs.Operations.{Rounds, add_near, whole-value, neg_value, sub_is_add}

-- 1 is `unit` of the format's smallest value, and 2 ^ -100 is `fine` of it. Both stay shut, so that
-- no proof computes with them.
pub unit : ℕ
unit = 2 ^ 1074

pub fine : ℕ
fine = 2 ^ 974

pub unit_is : unit ≡ 2 ^ 100 * fine
unfolding unit fine
unit_is = refl

pub unit-low : 2 ^ low binary64 ≡ unit
unfolding unit
unit-low = refl

pub unit-pos : 0 < unit
unfolding unit
unit-pos = pow_pos 1074

pub fine_pos : 0 < fine
unfolding fine
fine_pos = pow_pos 974

-- 2 ^ t in units, and the last place of a result below it
pub scale : (t : ℕ) → 2 ^ (1074 + t) ≡ 2 ^ t * unit
unfolding unit
scale t = pow-add 2 1074 t ∙ mul_comm (2 ^ 1074) (2 ^ t)

last-place : (t : ℕ) → 2 ^ (1074 + t - prec binary64) ≡ 2 ^ (46 + t) * fine * 2
unfolding fine
last-place t = ap (λ (x : ℕ). 2 ^ x) (order t) ∙ pow-add 2 (46 + t + 974) 1 ∙ ap (λ (x : ℕ). x * 2) (pow-add 2 (46 + t) 974)
  where
    order : (t : ℕ) → 1074 + t - 53 ≡ 46 + t + 974 + 1
    order t = omega arith

pub in_range : (t : ℕ) → t ≤ 900 → 1074 + t < low binary64 + suc (emax binary64)
in_range t h = omega arith

-- p - n units are at most (a - b) / d and e / 2 ^ 100 more
abbrev pub AtMost : ℕ → ℕ → ℕ → ℕ → ℕ → ℕ → Type 0
AtMost p n a b d e = d * p + b * unit ≤ d * n + a * unit + d * (e * fine)

-- times d, the float's units and the fraction's are at most d * e * fine apart
pub record Near (x : Float) (a b d k e : ℕ) : Type 0 where
  pub sign : Bool
  pub size : ℕ
  pub value : HasValue x sign size unit
  pub den : 0 < d
  pub bound : Apart a b (d * k)
  pub near : Apart (d * plus_of sign size + b * unit) (d * minus_of sign size + a * unit) (d * (e * fine))

-- the float itself is at most k in size, and its error more
pub near_size : {x : Float} {a b d k e : ℕ} (X : Near x a b d k e) → X.size ≤ k * unit + e * fine
near_size {x} {a} {b} {d} {k} {e} X = go X.sign X.size X.near.0 X.near.1
  where
    own : (p a b : ℕ) → a ≤ b + d * k → AtMost p 0 a b d e → p ≤ k * unit + e * fine
    own p a b h i =
        let j : d * p ≤ d * (k * unit + e * fine) = simp ring (omega (arith, simp ring at i, simp ring at (mul-le-mul_right unit h))) in
        le_of_mul-le-mul_left j X.den

    go : (s : Bool) (z : ℕ) → AtMost (plus_of s z) (minus_of s z) a b d e → AtMost (minus_of s z) (plus_of s z) b a d e → z ≤ k * unit + e * fine
    go false z h l = own z a b X.bound.0 h
    go true z h l = own z b a X.bound.1 l

-- one side of a rounding below 2 ^ t: q * (rp - rn) is at most p - n and half a last place more
abbrev pub Step : ℕ → ℕ → ℕ → ℕ → ℕ → ℕ → Type 0
Step rp rn p n q t = q * rp + n ≤ q * rn + p + q * (2 ^ (46 + t) * fine)

-- a rounded result is `Near` a fraction, where each side of the rounding shows one side of the
-- nearness
pub landed : {z : Float} {p n q a b d k e : ℕ} (t : ℕ) → Rounds z unit p n q (2 ^ (1074 + t - prec binary64)) → 0 < d → Apart a b (d * k)
    → ((rp rn : ℕ) → Step rp rn p n q t → AtMost rp rn a b d e) → ((rp rn : ℕ) → Step rp rn n p q t → AtMost rp rn b a d e) → Near z a b d k e
landed {z} {p} {n} {q} t R D B above below =
    let rp = plus_of R.sign R.size in
    let rn = minus_of R.sign R.size in
    let w : Apart ((q * rp + n) * 2) ((q * rn + p) * 2) (q * (2 ^ (46 + t) * fine * 2)) = subst (λ (E : ℕ). Apart ((q * rp + n) * 2) ((q * rn + p) * 2) (q * E)) (last-place t) R.near in
    record {
      sign = R.sign;
      size = R.size;
      value = R.value;
      den = D;
      bound = B;
      near = (above rp rn (half rp rn n p q (2 ^ (46 + t) * fine) w.0), below rn rp (half rn rp p n q (2 ^ (46 + t) * fine) w.1));
    }
  where
    half : (r s n p q h : ℕ) → (q * r + n) * 2 ≤ (q * s + p) * 2 + q * (h * 2) → q * r + n ≤ q * s + p + q * h
    half r s n p q h i = omega arith

-- ---- other words for the same
-- one side at (a - b) / c is one at (A - B) / d, where the two fractions are equal
pub same_side : (c p n a b A B d e : ℕ) → 0 < c → a * d + B * c ≡ A * c + b * d → AtMost p n a b c e → AtMost p n A B d e
same_side c p n a b A B d e C q h =
    let i : c * (d * p + B * unit) ≤ c * (d * n + A * unit + d * (e * fine)) = simp ring (omega (arith, simp ring at (ap (λ (x : ℕ). x * unit) q), simp ring at (mul-le-mul_left d h))) in
    le_of_mul-le-mul_left i C

-- the same value as another fraction
pub near_same : {x : Float} {a b d k e : ℕ} → Near x a b d k e → (A B D : ℕ) → 0 < D → a * D + B * d ≡ A * d + b * D → Near x A B D k e
near_same {x} {a} {b} {d} {k} {e} X A B D P q =
    let q' : b * D + A * d ≡ B * d + a * D = omega arith in
    let p = plus_of X.sign X.size in
    let n = minus_of X.sign X.size in
    record {
      sign = X.sign;
      size = X.size;
      value = X.value;
      den = P;
      bound = (within a b A B q X.bound.0, within b a B A q' X.bound.1);
      near = (same_side d p n a b A B D e X.den q X.near.0, same_side d n p b a B A D e X.den q' X.near.1);
    }
  where
    within : (a b A B : ℕ) → a * D + B * d ≡ A * d + b * D → a ≤ b + d * k → A ≤ B + D * k
    within a b A B q h =
        let i : d * A ≤ d * (B + D * k) = simp ring (omega (arith, simp ring at q, simp ring at (mul-le-mul_left D h))) in
        le_of_mul-le-mul_left i X.den

-- a value near (a - b) / d is near N / d, where N is a - b
pub near_signed : {x : Float} {a b d k e : ℕ} {N : ℤ} → Near x a b d k e → Diff N a b → (d' : ℕ) → d ≡ d' → Near x (plus N) (minus N) d' k e
near_signed {x} {a} {b} {d} {k} {e} {N} X D d' same =
    subst (λ (z : ℕ). Near x (plus N) (minus N) z k e) same (near_same X (plus N) (minus N) d X.den (omega (arith, ap (λ (n : ℕ). n * d) D.is)))

-- a larger bound and a larger error
pub near_weaken : {x : Float} {a b d k e : ℕ} → Near x a b d k e → (k' e' : ℕ) → k ≤ k' → e ≤ e' → Near x a b d k' e'
near_weaken {x} {a} {b} {d} {k} {e} X k' e' h i =
    let p : d * k ≤ d * k' = mul-le-mul_left d h in
    let q : d * (e * fine) ≤ d * (e' * fine) = mul-le-mul_left d (mul-le-mul_right fine i) in
    record {
      sign = X.sign;
      size = X.size;
      value = X.value;
      den = X.den;
      bound = (le_trans X.bound.0 (omega arith), le_trans X.bound.1 (omega arith));
      near = (le_trans X.near.0 (omega arith), le_trans X.near.1 (omega arith));
    }

-- ---- exact values
-- x is the fraction M / n with the sign s
pub exactly : (x : Float) (s : Bool) (X M n k : ℕ) → HasValue x s X unit → 0 < n → M * unit ≡ X * n → M ≤ n * k → Near x (plus_of s M) (minus_of s M) n k 0
exactly x s X M n k v N e h =
    let c = sides s in
    record { sign = s; size = X; value = v; den = N; bound = c.0; near = c.1 }
  where
    sides : (s : Bool) → Apart (plus_of s M) (minus_of s M) (n * k) × Apart (n * plus_of s X + minus_of s M * unit) (n * minus_of s X + plus_of s M * unit) (n * (0 * fine))
    sides false = omega arith
    sides true = omega arith

whole : (s : Bool) (n k : ℕ) → n ≤ k → k < 2 ^ 53 → Near (round binary64 s n 1) (plus_of s n) (minus_of s n) 1 k 0
whole s n k h i = exactly (round binary64 s n 1) s (n * unit) n 1 k (whole-value binary64 unit unit-low s n (lt_of_le_of_lt h i)) (le_refl 1) (sym (mul-one (n * unit))) (omega arith)

-- a whole number below 2 ^ 53 is exact
pub near_int : (z : ℤ) (k : ℕ) → plus z + minus z ≤ k → k < 2 ^ 53 → Near (of_int binary64 z) (plus z) (minus z) 1 k 0
unfolding of_int
near_int (pos n) k h i = whole false n k (omega arith) i
near_int (negsuc n) k h i = whole true (suc n) k (omega arith) i

-- ---- a sum
module _ {x y : Float} {a b d k e c g q l f : ℕ} (X : Near x a b d k e) (Y : Near y c g q l f) (t : ℕ) (T : t ≤ 900) (room : k + l < 2 ^ t) (small : e + f < 2 ^ 100) where
  -- x + y is near the sum of the fractions
  pub near_add : Near (add binary64 x y) (a * q + c * d) (b * q + g * d) (d * q) (k + l) (e + f + 2 ^ (46 + t))
  near_add =
      let xp = plus_of X.sign X.size in
      let xn = minus_of X.sign X.size in
      let yp = plus_of Y.sign Y.size in
      let yn = minus_of Y.sign Y.size in
      landed t
      (add_near binary64 unit unit-low x y X.sign X.size Y.sign Y.size (1074 + t) X.value Y.value
      (subst (λ (z : ℕ). X.size + Y.size < z) (sym (scale t)) (fits_in X.size Y.size unit fine fine_pos unit_is (near_size X) (near_size Y))) (in_range t T))
      (mul-pos X.den Y.den) (bounds X.bound Y.bound)
      (λ rp rn i. side rp rn xp xn yp yn a b c g unit fine i X.near.0 Y.near.0)
      (λ rp rn i. side rp rn xn xp yn yp b a g c unit fine i X.near.1 Y.near.1)
    where
      fits_in : (X Y u v : ℕ) → 0 < v → u ≡ 2 ^ 100 * v → X ≤ k * u + e * v → Y ≤ l * u + f * v → X + Y < 2 ^ t * u
      fits_in X Y u v P U i j = omega (arith, mul-le-mul_right u room, mul-lt-mul_of_pos_right small P)

      bounds : Apart a b (d * k) → Apart c g (q * l) → Apart (a * q + c * d) (b * q + g * d) (d * q * (k + l))
      bounds h i = omega (arith, mul-le-mul_left q h.0, mul-le-mul_left q h.1, mul-le-mul_left d i.0, mul-le-mul_left d i.1)

      side : (rp rn xp xn yp yn a b c g u v : ℕ) → 1 * rp + (xn + yn) ≤ 1 * rn + (xp + yp) + 1 * (2 ^ (46 + t) * v)
          → d * xp + b * u ≤ d * xn + a * u + d * (e * v) → q * yp + g * u ≤ q * yn + c * u + q * (f * v)
          → d * q * rp + (b * q + g * d) * u ≤ d * q * rn + (a * q + c * d) * u + d * q * ((e + f + 2 ^ (46 + t)) * v)
      side rp rn xp xn yp yn a b c g u v i h j =
          simp ring (omega (arith, simp ring at (mul-le-mul_left (d * q) i), simp ring at (mul-le-mul_left q h), simp ring at (mul-le-mul_left d j)))

-- the same over one denominator, as a loop adds
pub near_add_same : {x y : Float} {a b d k e c g l f : ℕ} → Near x a b d k e → Near y c g d l f → (t : ℕ) → t ≤ 900 → k + l < 2 ^ t → e + f < 2 ^ 100
    → Near (add binary64 x y) (a + c) (b + g) d (k + l) (e + f + 2 ^ (46 + t))
near_add_same {x} {y} {a} {b} {d} {k} {e} {c} {g} X Y t T r i = near_same (near_add X Y t T r i) (a + c) (b + g) d X.den (simp ring (omega arith))

-- ---- a negative, and a difference
-- -x is near the fraction's negative
pub near_neg : {x : Float} {a b d k e : ℕ} → Near x a b d k e → Near (neg x) b a d k e
near_neg {x} {a} {b} {d} {k} {e} X = record {
  sign = not X.sign;
  size = X.size;
  value = neg_value x X.sign X.size unit X.value;
  den = X.den;
  bound = (X.bound.1, X.bound.0);
  near = flip (λ (p n : ℕ). Apart (d * p + a * unit) (d * n + b * unit) (d * (e * fine))) X.sign (X.near.1, X.near.0);
}
  where
    flip : (P : ℕ → ℕ → Type 0) (s : Bool) → P (minus_of s X.size) (plus_of s X.size) → P (plus_of (not s) X.size) (minus_of (not s) X.size)
    flip P false h = h
    flip P true h = h

-- x - y is near the difference of the fractions
pub near_sub : {x y : Float} {a b d k e c g q l f : ℕ} → Near x a b d k e → Near y c g q l f → (t : ℕ) → t ≤ 900 → k + l < 2 ^ t → e + f < 2 ^ 100
    → Near (sub binary64 x y) (a * q + g * d) (b * q + c * d) (d * q) (k + l) (e + f + 2 ^ (46 + t))
near_sub {x} {y} {a} {b} {d} {k} {e} {c} {g} {q} {l} {f} X Y t T r i =
    subst (λ (z : Float). Near z (a * q + g * d) (b * q + c * d) (d * q) (k + l) (e + f + 2 ^ (46 + t))) (sub_is_add binary64 x y) (near_add X (near_neg Y) t T r i)
